use borrow.Author.Tests.{eq-eqb, ne_eqb}
use Rattle.usbhs_c.specs.Calls.{dir_of}
use Rattle.usbhs_c.proofs.inputs.dir_of.Goals as goal

pub returns-then-n-eq0 : goal.returns-then-n-eq0
unfolding dir_of
returns-then-n-eq0 c = simp (eq-eqb _ _ c.if-n-eq0.true)

pub returns : goal.returns
unfolding dir_of
returns c = simp (ne_eqb _ _ c.if-n-eq0.false)
