use mathlib.Core.Path.{sym, ◌∙◌}
use Rattle.bus_time.specs.TimeLaws.{stays-where, returns-where}
use Rattle.bus_time.proofs.entry_kept.Goals as goal

pub returns-then-is_set : goal.returns-then-is_set
returns-then-is_set c = stays-where _ _ _ c.requires (sym c.is_set.ensures ∙ c.if-is_set.true)

pub returns : goal.returns
returns c = returns-where _ _ _ c.requires (sym c.is_set.ensures ∙ c.if-is_set.false)
