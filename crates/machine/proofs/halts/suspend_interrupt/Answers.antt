use mathlib.Core.Path.{refl}
use Rattle.machine.proofs.halts.suspend_interrupt.Goals as goal

pub returns : goal.returns
returns c =
    record { answered = refl; viewed = c.store_frame.ensures.0; stored = c.store_frame.ensures.1 }
