use native.Mathlib.Omega.{arith}
use Rattle.regs.proofs.Words.{responds}
use Rattle.regs.specs.ControlWord.{stall}
use Rattle.regs.proofs.control_word.stall.Goals as goal

pub returns : goal.returns
unfolding stall
returns c = responds c.args.word 3 c.ranges.word.fits (omega arith)
