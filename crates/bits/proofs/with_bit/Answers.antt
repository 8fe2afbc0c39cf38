use Rattle.std.proofs.Common.{◌%◌, arith}
use Rattle.bits.specs.BitLaws.{sets, clears}
use Rattle.bits.proofs.with_bit.Goals as goal

pub returns-then-on : goal.returns-then-on
returns-then-on c = rw c.if-on.true (sets 32 c.args.word (c.args.bit % 32) (omega arith))

pub returns-else-on : goal.returns-else-on
returns-else-on c =
    rw c.if-on.false (clears 32 c.args.word (c.args.bit % 32) c.ranges.word.fits (omega arith))
