use mathlib.Core.Path.{subst}
use Rattle.isochronous.specs.Complete as complete
use Rattle.interrupt.specs.StopsLaws.{pauses-at, goes_on_lem}
use borrow.Author.Rules.{rules}
use Rattle.interrupt.proofs.tokens.then_complete.Goals as goal

pub enum_told-1 : goal.enum_told-1
enum_told-1 c = search rules

pub returns-in-Asks : goal.returns-in-Asks
returns-in-Asks c =
    pauses-at c.stand_completing.ensures (subst complete.Linked c.in-Asks.is c.requires) (simp c.in-Asks.is)

pub returns-in-Ends : goal.returns-in-Ends
returns-in-Ends c = goes_on_lem c.after_dispatch.ensures (simp c.in-Ends.is)
