use Rattle.alloc.specs.Buffer.{fits}
use Rattle.alloc.proofs.buffer.fits.Goals as goal

pub returns : goal.returns
unfolding fits
returns c = simp c.product.ensures
