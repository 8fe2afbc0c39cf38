use mathlib.Core.Path.{subst}
use Rattle.interrupt.specs.Nak as nak
use Rattle.interrupt.specs.StopsLaws.{pauses-in, goes_in}
use borrow.Author.Rules.{rules}
use Rattle.interrupt.proofs.interrupt_entry.then_nak.Goals as goal

pub enum_told-1 : goal.enum_told-1
enum_told-1 c = search rules

pub returns-in-Asks : goal.returns-in-Asks
returns-in-Asks c =
    pauses-in c.stand_nak.ensures (subst nak.Linked c.in-Asks.is c.requires) (λ b. simp c.in-Asks.is)

pub returns-in-Ends : goal.returns-in-Ends
returns-in-Ends c = goes_in c.release.ensures (λ b. simp c.in-Ends.is)
