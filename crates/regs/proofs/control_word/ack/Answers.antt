use Rattle.regs.proofs.Words.{acks}
use Rattle.regs.proofs.control_word.ack.Goals as goal

pub returns : goal.returns
returns c = acks c.args.word c.ranges.word.fits
