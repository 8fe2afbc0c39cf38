use Rattle.script.specs.Answers.{is_number}
use borrow.Author.Tests.{lt-ltb, le-ltb}
use Rattle.script_ops.proofs.rows.is_number.Goals as goal

pub returns-then-e-gt0 : goal.returns-then-e-gt0
unfolding is_number
returns-then-e-gt0 c = simp (lt-ltb _ _ c.if-e-gt0.true)

pub returns : goal.returns
unfolding is_number
returns c = simp (le-ltb _ _ c.if-e-gt0.false)
