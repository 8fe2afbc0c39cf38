use mathlib.Core.Path.{refl}
use Rattle.descriptor.specs.Trial.{given}
use Rattle.descriptor.proofs.preview.given.Goals as goal

pub returns : goal.returns
unfolding given
returns c = refl
