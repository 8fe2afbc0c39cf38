use mathlib.Core.Path.{◌∙◌}
use Rattle.isochronous.proofs.complete.start.Goals as goal

pub returns : goal.returns
returns c = (
  λ b. simp (← c.complete.ensures.s_after, c.iso_in_load.ensures.0),
  (c.iso_in_load.ensures.1.0 ∙ c.complete.ensures.s_unchanged, c.iso_in_load.ensures.1.1),
)
