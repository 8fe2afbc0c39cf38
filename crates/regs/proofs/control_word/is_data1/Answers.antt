use Rattle.regs.specs.ControlWord.{is_data1}
use Rattle.regs.proofs.control_word.is_data1.Goals as goal

pub returns : goal.returns
unfolding is_data1
returns c = rw c.toggle.ensures
