use mathlib.Core.Path.{◌∙◌}
use Rattle.descriptor.specs.Trial.{step}
use Rattle.descriptor.proofs.preview.step.Goals as goal

pub returns : goal.returns
unfolding step
returns c = c.answered.ensures ∙ rw c.asked-z.ensures
