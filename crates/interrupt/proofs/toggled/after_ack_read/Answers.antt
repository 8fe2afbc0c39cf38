use mathlib.Core.Path.{refl}
use Rattle.interrupt.proofs.toggled.after_ack_read.Goals as goal

pub returns : goal.returns
returns c = (λ d b. simp (c.ctrl_of.ensures, c.ack-word.ensures, c.byte.ensures), refl)
