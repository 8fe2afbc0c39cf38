use Rattle.interrupt.specs.StopsLaws.{pauses-in}
use Rattle.interrupt.specs.Continuations.{after_nak}
use mathlib.Core.Path.{refl}
use Rattle.interrupt.proofs.interrupt_entry.release.Goals as goal

pub returns : goal.returns
unfolding after_nak
returns c = pauses-in c.stand_released.ensures refl (λ b. refl)
