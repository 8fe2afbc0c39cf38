use mathlib.Core.Path.{refl}
use Rattle.descriptor.specs.Row.{is_clear}
use Rattle.descriptor.proofs.row.is_clear.Goals as goal

pub returns : goal.returns
unfolding is_clear
returns c = refl
