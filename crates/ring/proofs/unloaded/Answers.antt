use Rattle.std.proofs.Common.{refl}
use Rattle.ring.specs.In.{unloaded_of}
use Rattle.ring.proofs.unloaded.Goals as goal

pub returns : goal.returns
unfolding unloaded_of
returns c = refl
