use mathlib.Core.Path.{subst}
use Rattle.isochronous.specs.Points as check
use Rattle.interrupt.specs.StopsLaws.{pauses-at, goes_on_lem}
use borrow.Author.Rules.{rules}
use Rattle.interrupt.proofs.check.checked.Goals as goal

pub enum_told-1 : goal.enum_told-1
enum_told-1 c = search rules

pub returns-in-Asks : goal.returns-in-Asks
returns-in-Asks c =
    pauses-at c.stand_check.ensures (subst check.Linked c.in-Asks.is c.requires) (simp c.in-Asks.is)

pub returns-in-Ends : goal.returns-in-Ends
returns-in-Ends c =
    goes_on_lem (c.ep0_moved_on.ensures.0 _, c.ep0_moved_on.ensures.1) (simp c.in-Ends.is)
