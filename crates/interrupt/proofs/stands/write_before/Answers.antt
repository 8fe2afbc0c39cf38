use mathlib.Core.Path.{◌∙◌, ap}
use Rattle.interrupt.specs.Suspended.{with_tag}
use Rattle.interrupt.proofs.stands.write_before.Goals as goal

pub returns : goal.returns
returns c =
    (c.stand_write.ensures.0, (c.stand_write.ensures.1.0, c.stand_write.ensures.1.1 ∙ ap (with_tag 6) c.before_transfer.ensures))
