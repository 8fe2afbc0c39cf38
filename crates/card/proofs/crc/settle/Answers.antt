use Rattle.std.proofs.Common.{mod-eq_of_lt, arith}
use Rattle.card.specs.Fold.{settled, remainder_of}
use Rattle.card.specs.FoldLaws.{odd-lt, remainder-lt}
use Rattle.card.proofs.crc.settle.Goals as goal

pub overflow_mul-result : goal.overflow_mul-result
overflow_mul-result c = omega (arith, c.parity.ensures, odd-lt c.args.words)

pub returns : goal.returns
unfolding settled remainder_of
returns c = rw c.parity.ensures (mod-eq_of_lt (remainder-lt c.args.sum c.args.words))
