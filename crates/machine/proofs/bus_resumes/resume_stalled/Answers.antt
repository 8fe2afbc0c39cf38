use Rattle.machine.proofs.PointsStandsLaws.{at-point, comes-to, stays_at}
use Rattle.machine.specs.BusLaws.{bus}
use mathlib.Core.Path.{sym, ◌∙◌, refl}
use Rattle.machine.proofs.bus_resumes.resume_stalled.Goals as goal

pub after_stalled-n-requires : goal.after_stalled-n-requires
after_stalled-n-requires c = sym c.fits.ensures ∙ c.if-fits.true

pub returns-then-fits : goal.returns-then-fits
returns-then-fits c =
    let fitted = sym c.fits.ensures ∙ c.if-fits.true in
    let here = at-point bus 2 c.requires refl in
    λ b. comes-to bus here fitted c.stop.ensures (c.after_stalled-n.ensures _ b)

pub returns : goal.returns
returns c =
    λ b. stays_at bus (at-point bus 2 c.requires refl) (sym c.fits.ensures ∙ c.if-fits.false)
