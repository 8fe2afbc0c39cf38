use mathlib.Core.Path.{◌∙◌, ap}
use Rattle.interrupt.specs.Suspended.{with_tag}
use Rattle.interrupt.proofs.stands.store_frame.Goals as goal

pub returns : goal.returns
returns c = (c.store.ensures.0, c.store.ensures.1 ∙ ap (with_tag 6) c.before_transfer.ensures)
