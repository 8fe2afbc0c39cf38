use Rattle.std.proofs.Common.{arith}
use Rattle.bits.specs.BitLaws.{low-with, low-lt}
use Rattle.bits.proofs.byte_with.Goals as goal

pub overflow_cast-result : goal.overflow_cast-result
overflow_cast-result c =
    record {
      fits = low-lt 8 c.args.byte c.args.bit c.args.on _ (omega arith) (omega arith) c.with_bit.ensures
          c.ranges.byte.fits;
    }

pub returns : goal.returns
returns c =
    low-with 8 c.args.byte c.args.bit c.args.on _ (omega arith) (omega arith) c.with_bit.ensures
