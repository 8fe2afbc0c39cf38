use native.Mathlib.Omega.{arith}
use Rattle.regs.proofs.Words.{responds}
use Rattle.regs.specs.ControlWord.{nak}
use Rattle.regs.proofs.control_word.nak.Goals as goal

pub returns : goal.returns
unfolding nak
returns c = responds c.args.word 2 c.ranges.word.fits (omega arith)
