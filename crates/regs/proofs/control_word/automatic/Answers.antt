use Rattle.regs.specs.ControlWord.{automatic}
use Rattle.regs.proofs.control_word.automatic.Goals as goal

pub returns : goal.returns
unfolding automatic
returns c = c.byte_has.ensures
