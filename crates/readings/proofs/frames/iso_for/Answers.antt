use Rattle.script.specs.Handler.{iso_for}
use borrow.Author.Rules.{rules}
use Rattle.readings.proofs.frames.iso_for.Goals as goal

pub enum_told-1 : goal.enum_told-1
enum_told-1 c = search rules

pub returns-in-Out : goal.returns-in-Out
unfolding iso_for
returns-in-Out c = simp (← c.token-t.ensures, c.in-Out.is, ← c.is_on.ensures)

pub returns-in-Sof : goal.returns-in-Sof
unfolding iso_for
returns-in-Sof c = simp (← c.token-t.ensures, c.in-Sof.is)

pub returns-in-In : goal.returns-in-In
unfolding iso_for
returns-in-In c = simp (← c.token-t.ensures, c.in-In.is, ← c.is_on-in-In.ensures)

pub returns-in-Setup : goal.returns-in-Setup
unfolding iso_for
returns-in-Setup c = simp (← c.token-t.ensures, c.in-Setup.is)
