use mathlib.Core.Path.{◌∙◌}
use Rattle.descriptor.proofs.put.configuration.Goals as goal

pub returns : goal.returns
returns c =
    c.put.ensures ∙ rw (
      c.low.ensures,
      c.high.ensures,
    )
