use Rattle.std.proofs.Common.{refl}
use Rattle.card.specs.Fold.{folded}
use Rattle.card.proofs.crc.fold.Goals as goal

pub returns : goal.returns
unfolding folded
returns c = refl
