use Rattle.interrupt.specs.Continuations.{sof_due}
use Rattle.interrupt.proofs.serving.sof_due.Goals as goal

pub returns-then-is_sof : goal.returns-then-is_sof
unfolding sof_due
returns-then-is_sof c = simp (← c.is_sof.ensures, c.if-is_sof.true)

pub returns : goal.returns
unfolding sof_due
returns c = simp (← c.is_sof.ensures, c.if-is_sof.false)
