use Rattle.regs.proofs.Words.{status-word}
use Rattle.regs.proofs.control_word.status.Goals as goal

pub returns : goal.returns
returns c = status-word c.args.word c.ranges.word.fits
