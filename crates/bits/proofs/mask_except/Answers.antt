use Rattle.std.proofs.Common.{refl}
use Rattle.bits.specs.Mask.{except}
use Rattle.bits.proofs.mask_except.Goals as goal

pub returns : goal.returns
unfolding except
returns c = refl
