use mathlib.Core.Path.{refl}
use Rattle.alloc.specs.Alloc.{is_iso}
use Rattle.alloc.proofs.number.is_iso.Goals as goal

pub returns : goal.returns
unfolding is_iso
returns c = refl
