use mathlib.Core.Path.{refl}
use Rattle.visits.specs.Bounds.{rounded_up, greatest_of}
use Rattle.visits.proofs.greatest.Goals as goal

pub returns : goal.returns
unfolding greatest_of rounded_up
returns c = refl
