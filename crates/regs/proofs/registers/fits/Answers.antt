use Rattle.regs.proofs.Fits.{none_above, all_fit}
use Rattle.regs.proofs.registers.fits.Goals as goal

pub returns-then-width-lt32 : goal.returns-then-width-lt32
returns-then-width-lt32 c = none_above c.args.value c.args.width

pub returns : goal.returns
returns c = all_fit c.args.value c.args.width c.ranges.value.fits c.if-width-lt32.false
