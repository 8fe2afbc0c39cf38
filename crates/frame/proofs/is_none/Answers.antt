use Rattle.std.proofs.Common.{refl}
use Rattle.frame.specs.Advance.{is_none}
use Rattle.frame.proofs.is_none.Goals as goal

pub returns : goal.returns
unfolding is_none
returns c = refl
