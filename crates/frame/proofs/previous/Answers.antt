use Rattle.std.proofs.Common.{arith}
use lib.Bits.{and_mask}
use Rattle.frame.specs.Advance.{previous}
use Rattle.frame.proofs.previous.Goals as goal

pub returns : goal.returns
unfolding previous
returns c = omega (arith, and_mask c.wrapping_sub_u16.result 14)
