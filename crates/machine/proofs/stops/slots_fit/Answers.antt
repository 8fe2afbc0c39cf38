use Rattle.alloc.specs.Buffer.{fits}
use Rattle.machine.specs.Suspended.{slots_fit}
use Rattle.machine.proofs.stops.slots_fit.Goals as goal

pub returns : goal.returns
unfolding slots_fit fits
returns c = simp (c.fits.ensures, c.load_allocator-a.ensures)
