use mathlib.Core.Path.{refl}
use Rattle.alloc.specs.Alloc.{with_next}
use Rattle.alloc.proofs.masks.with_next.Goals as goal

pub returns : goal.returns
unfolding with_next
returns c = refl
