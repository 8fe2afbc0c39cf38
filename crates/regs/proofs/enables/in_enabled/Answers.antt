use mathlib.Core.Path.{ap}
use native.Mathlib.Omega.{arith}
use lib.Bits.{bit_and, and_mask}
use Rattle.regs.specs.Enables.{in_enabled}
use Rattle.regs.proofs.enables.in_enabled.Goals as goal

pub overflow_cast-result : goal.overflow_cast-result
overflow_cast-result c = omega (arith, and_mask c.args.config 16)

pub returns : goal.returns
unfolding in_enabled
returns c = ap (bit_and c.args.mask) (and_mask c.args.config 16)
