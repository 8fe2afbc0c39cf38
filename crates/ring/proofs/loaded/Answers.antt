use Rattle.std.proofs.Common.{refl}
use Rattle.ring.specs.In.{loaded_of}
use Rattle.ring.proofs.loaded.Goals as goal

pub returns : goal.returns
unfolding loaded_of
returns c = refl
