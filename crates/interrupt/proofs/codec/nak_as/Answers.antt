use borrow.Author.Rules.{rules}
use Rattle.interrupt.proofs.codec.nak_as.Goals as goal

pub enum_told-1 : goal.enum_told-1
enum_told-1 c = search rules

pub returns-in-Out : goal.returns-in-Out
returns-in-Out c = simp (c.inner.ensures, c.in-Out.is, c.in-Word.is)

pub returns-in-In : goal.returns-in-In
returns-in-In c = simp (c.inner-in-In.ensures, c.in-In.is, c.in-Word.is)

pub returns-in-Wrote : goal.returns-in-Wrote
returns-in-Wrote c = simp (c.inner-in-Wrote.ensures, c.in-Wrote.is)
