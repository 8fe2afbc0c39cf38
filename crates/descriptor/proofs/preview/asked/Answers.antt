use mathlib.Core.Path.{◌∙◌}
use Rattle.descriptor.specs.Trial.{asked}
use Rattle.descriptor.proofs.preview.asked.Goals as goal

pub returns : goal.returns
unfolding asked
returns c = c.alloc_endpoint.ensures ∙ rw c.direction.ensures
