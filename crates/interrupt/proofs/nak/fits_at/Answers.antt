use Rattle.interrupt.specs.Nak.{fits_at}
use borrow.Author.Rules.{rules}
use Rattle.interrupt.proofs.nak.fits_at.Goals as goal

pub enum_told-1 : goal.enum_told-1
enum_told-1 c = search rules

pub returns-in-Word : goal.returns-in-Word
unfolding fits_at
returns-in-Word c = simp (c.fits.ensures, c.in-Word.is)

pub returns-in-Wrote : goal.returns-in-Wrote
unfolding fits_at
returns-in-Wrote c = simp c.in-Wrote.is
