use Rattle.std.proofs.Common.{refl}
use Rattle.state.proofs.EpState.reset.Goals as goal

pub returns : goal.returns
returns c = refl
