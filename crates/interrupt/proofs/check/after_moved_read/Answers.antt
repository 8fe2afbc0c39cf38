use Rattle.interrupt.specs.StopsLaws.{pauses-in}
use mathlib.Core.Path.{refl}
use Rattle.interrupt.proofs.check.after_moved_read.Goals as goal

pub returns : goal.returns
returns c =
    pauses-in c.stand_moved_wrote.ensures refl (λ b. simp (c.ctrl_of.ensures, c.nakflip-word.ensures, c.byte.ensures))
