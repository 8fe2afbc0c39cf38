use Rattle.regs.specs.ControlWord.{is_stalled}
use Rattle.regs.proofs.control_word.is_stalled.Goals as goal

pub returns : goal.returns
unfolding is_stalled
returns c = rw c.response.ensures
