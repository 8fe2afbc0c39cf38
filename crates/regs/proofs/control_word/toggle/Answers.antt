use Rattle.bits.specs.Field.{reads as reads-field}
use Rattle.regs.specs.ControlWord.{toggle}
use Rattle.regs.proofs.control_word.toggle.Goals as goal

pub returns : goal.returns
unfolding toggle
returns c = reads-field c.args.word 2 2
