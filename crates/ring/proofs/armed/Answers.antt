use Rattle.std.proofs.Common.{refl}
use Rattle.ring.specs.Out.{armed_at}
use Rattle.ring.proofs.armed.Goals as goal

pub returns : goal.returns
unfolding armed_at
returns c = refl
