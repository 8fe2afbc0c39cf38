use borrow.Author.Tests.{lt-ltb, le-ltb}
use Rattle.script.specs.Endpoint.{too_long}
use Rattle.endpoint.proofs.read.too_long.Goals as goal

pub returns-then-n-r : goal.returns-then-n-r
unfolding too_long
returns-then-n-r c = simp (lt-ltb _ _ c.if-n-r.true)

pub returns : goal.returns
unfolding too_long
returns c = simp (le-ltb _ _ c.if-n-r.false)
