use Rattle.isochronous.specs.Sof.{fits_at}
use borrow.Author.Rules.{rules}
use Rattle.isochronous.proofs.sof.fits_at.Goals as goal

pub enum_told-1 : goal.enum_told-1
enum_told-1 c = search rules

pub returns-in-Mis : goal.returns-in-Mis
unfolding fits_at
returns-in-Mis c = simp (c.fits.ensures, c.in-Mis.is)

pub returns-in-St : goal.returns-in-St
unfolding fits_at
returns-in-St c = simp (c.fits-in-St.ensures, c.in-St.is)

pub returns-in-Completing : goal.returns-in-Completing
unfolding fits_at
returns-in-Completing c = simp c.in-Completing.is

pub returns-in-Callback : goal.returns-in-Callback
unfolding fits_at
returns-in-Callback c = simp c.in-Callback.is
