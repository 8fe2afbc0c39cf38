use Rattle.machine.specs.Tags.{passes-by}
use mathlib.Core.Path.{◌∙◌, sym}
use Rattle.machine.proofs.saved.may_pass.Goals as goal

pub returns : goal.returns
returns c = c.is_none.ensures ∙ sym (passes-by _ _ c.tag.ensures)
