use lib.Bits.{and_mask}
use Rattle.regs.specs.ControlWord.{response}
use Rattle.regs.proofs.control_word.response.Goals as goal

pub returns : goal.returns
unfolding response
returns c = and_mask c.args.word 2
