use Rattle.script_ops.specs.Rows.{stallable}
use borrow.Author.Tests.{eq-eqb, ne_eqb}
use Rattle.script_ops.proofs.rows.is_stallable.Goals as goal

pub returns-then-e-eq0 : goal.returns-then-e-eq0
unfolding stallable
returns-then-e-eq0 c = simp (eq-eqb _ _ c.if-e-eq0.true)

pub returns : goal.returns
unfolding stallable
returns c = simp (c.is_allocated.ensures, ne_eqb _ _ c.if-e-eq0.false)
