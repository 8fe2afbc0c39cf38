use mathlib.Core.Path.{refl}
use Rattle.regs.specs.Enables.{out_enabled}
use Rattle.regs.proofs.enables.out_enabled.Goals as goal

pub returns : goal.returns
unfolding out_enabled
returns c = refl
