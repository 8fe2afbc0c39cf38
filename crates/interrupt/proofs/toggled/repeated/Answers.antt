use Rattle.script.specs.Handler.{repeated}
use Rattle.interrupt.proofs.toggled.repeated.Goals as goal

pub returns : goal.returns
unfolding repeated
returns c = simp (← c.data1.ensures)
