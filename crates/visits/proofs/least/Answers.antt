use mathlib.Core.Path.{refl}
use Rattle.visits.specs.Bounds.{least_of}
use Rattle.visits.proofs.least.Goals as goal

pub returns : goal.returns
unfolding least_of
returns c = refl
