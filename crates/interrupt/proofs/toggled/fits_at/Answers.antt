use Rattle.interrupt.specs.Toggled.{fits_at}
use borrow.Author.Rules.{rules}
use Rattle.interrupt.proofs.toggled.fits_at.Goals as goal

pub enum_told-1 : goal.enum_told-1
enum_told-1 c = search rules

pub returns-in-Look : goal.returns-in-Look
unfolding fits_at
returns-in-Look c = simp (c.fits.ensures, c.in-Look.is)

pub returns-in-Word : goal.returns-in-Word
unfolding fits_at
returns-in-Word c = simp (c.fits-in-Word.ensures, c.in-Word.is)

pub returns-in-AckRead : goal.returns-in-AckRead
unfolding fits_at
returns-in-AckRead c = simp (c.fits-in-AckRead.ensures, c.in-AckRead.is)

pub returns-in-Acked : goal.returns-in-Acked
unfolding fits_at
returns-in-Acked c = simp c.in-Acked.is
