use Rattle.isochronous.specs.Points.{fits_at}
use Rattle.isochronous.proofs.out.fits_at.Goals as goal

pub returns-in-St : goal.returns-in-St
unfolding fits_at
returns-in-St c = simp (c.fits.ensures, c.in-St.is)

pub returns-in-Armed : goal.returns-in-Armed
unfolding fits_at
returns-in-Armed c = simp c.in-Armed.is
