use Rattle.interrupt.specs.StopsLaws.{pauses-in}
use mathlib.Core.Path.{refl}
use Rattle.interrupt.proofs.tokens.after_flip.Goals as goal

pub returns : goal.returns
returns c =
    pauses-in c.stand_flipped.ensures refl (λ b. simp (c.ctrl_of.ensures, c.flip-word.ensures, c.byte.ensures))
