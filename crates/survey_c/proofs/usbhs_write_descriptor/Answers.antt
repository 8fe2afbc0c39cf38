use mathlib.Core.Path.{sym, ◌∙◌}
use native.Mathlib.Omega.{arith}
use Rattle.survey_c.specs.DescriptorLaws.{bytes-few}
use Rattle.survey_c.proofs.usbhs_write_descriptor.Goals as goal

pub overflow_cast-n : goal.overflow_cast-n
overflow_cast-n c =
    omega (arith, bytes-few _ _ _ (sym c.rewrite.ensures.value ∙ c.in-Bytes.is))
