use Rattle.machine.specs.Tags.{idle-by}
use mathlib.Core.Path.{◌∙◌, sym}
use Rattle.machine.proofs.saved.is_idle.Goals as goal

pub returns : goal.returns
returns c = c.is_none.ensures ∙ sym (idle-by _ _ c.tag.ensures)
