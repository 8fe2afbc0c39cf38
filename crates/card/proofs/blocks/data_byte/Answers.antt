use Rattle.std.proofs.Common.{refl}
use Rattle.card.specs.Streams.{data_byte}
use Rattle.card.proofs.blocks.data_byte.Goals as goal

pub returns : goal.returns
unfolding data_byte
returns c = refl
