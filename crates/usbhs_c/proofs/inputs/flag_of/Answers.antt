use mathlib.Core.Path.{refl}
use Rattle.usbhs_c.specs.Calls.{flag_of}
use Rattle.usbhs_c.proofs.inputs.flag_of.Goals as goal

pub returns : goal.returns
unfolding flag_of
returns c = refl
