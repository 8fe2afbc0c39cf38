use mathlib.Core.Path.{◌∙◌, ap}
use Rattle.interrupt.specs.Suspended.{with_tag}
use Rattle.interrupt.proofs.stands.read_before.Goals as goal

pub returns : goal.returns
returns c =
    (c.stand_read.ensures.0, (c.stand_read.ensures.1.0, c.stand_read.ensures.1.1 ∙ ap (with_tag 6) c.before_transfer.ensures))
