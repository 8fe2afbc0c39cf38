use Rattle.std.proofs.Common.{arith}
use Rattle.bits.specs.BitLaws.{low-with, low-lt}
use Rattle.bits.proofs.mask_with.Goals as goal

pub overflow_cast-result : goal.overflow_cast-result
overflow_cast-result c =
    record {
      fits = low-lt 16 c.args.mask c.args.endpoint c.args.on _ (omega arith) (omega arith) c.with_bit.ensures
          c.ranges.mask.fits;
    }

pub returns : goal.returns
returns c =
    low-with 16 c.args.mask c.args.endpoint c.args.on _ (omega arith) (omega arith) c.with_bit.ensures
