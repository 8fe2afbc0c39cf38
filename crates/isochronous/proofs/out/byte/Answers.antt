use Rattle.regs.specs.Registers.{fits_in}
use borrow.Author.Tests.{ltb-true}
use native.Mathlib.Omega.{arith}
use Rattle.isochronous.proofs.out.byte.Goals as goal

pub overflow_cast-result : goal.overflow_cast-result
unfolding fits_in
overflow_cast-result c = let h = ltb-true c.args.v 256 c.requires in omega (arith, h)
