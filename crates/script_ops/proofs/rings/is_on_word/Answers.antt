use mathlib.Core.Path.{refl}
use Rattle.script.specs.Statics.{is_on}
use Rattle.script_ops.proofs.rings.is_on_word.Goals as goal

pub returns : goal.returns
unfolding is_on
returns c = refl
