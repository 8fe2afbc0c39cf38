use Rattle.std.proofs.Common.{refl}
use Rattle.ring.specs.Out.{opened_of}
use Rattle.ring.proofs.opened.Goals as goal

pub returns : goal.returns
unfolding opened_of
returns c = refl
