use mathlib.Core.Path.{ap, ◌∙◌}
use Rattle.regs.specs.ControlWord.{flip, nakflip}
use Rattle.regs.proofs.control_word.nakflip.Goals as goal

pub returns : goal.returns
unfolding nakflip
returns c = c.flip.ensures ∙ ap flip c.nak.ensures
