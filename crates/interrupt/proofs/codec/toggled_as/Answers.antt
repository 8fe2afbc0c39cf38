use borrow.Author.Rules.{rules}
use Rattle.interrupt.proofs.codec.toggled_as.Goals as goal

pub enum_told-1 : goal.enum_told-1
enum_told-1 c = search rules

pub returns-in-Look : goal.returns-in-Look
returns-in-Look c = simp (c.looking.ensures, c.in-Look.is)

pub returns-in-Word : goal.returns-in-Word
returns-in-Word c = simp (c.looking-in-Word.ensures, c.in-Word.is)

pub returns-in-AckRead : goal.returns-in-AckRead
returns-in-AckRead c = simp (c.looking-in-AckRead.ensures, c.in-AckRead.is)

pub returns-in-Acked : goal.returns-in-Acked
returns-in-Acked c = simp (c.looking-in-Acked.ensures, c.in-Acked.is)
