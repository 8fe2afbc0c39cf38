use Rattle.std.proofs.Common.{refl}
use Rattle.card.specs.Fold.{odd}
use Rattle.card.proofs.crc.parity.Goals as goal

pub returns : goal.returns
unfolding odd
returns c = refl
