use lib.Count.{trailing_le}
use Rattle.std.proofs.Common.{arith}
use Rattle.bits.proofs.next_endpoint.Goals as goal

pub overflow_cast-result : goal.overflow_cast-result
overflow_cast-result c = omega (arith, trailing_le 16 c.args.mask)
