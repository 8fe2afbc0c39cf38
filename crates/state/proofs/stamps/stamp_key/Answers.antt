use Rattle.std.proofs.Common.{refl, arith}
use Rattle.state.specs.Driver.{stamp_key}
use Rattle.state.proofs.stamps.stamp_key.Goals as goal

pub returns : goal.returns
unfolding stamp_key
returns c = (refl, omega arith)
