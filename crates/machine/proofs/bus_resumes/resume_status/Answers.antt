use Rattle.machine.proofs.PointsStandsLaws.{at-point, goes_to, stays_at}
use Rattle.machine.specs.BusLaws.{bus}
use Rattle.bus.specs.Points.{fits_at, after_status}
use Rattle.bus.specs.declared.Point.TheVariants as point
use mathlib.Core.Path.{refl, sym, ◌∙◌}
use Rattle.bus.specs.Laws.{fits-status}
use Rattle.machine.proofs.bus_resumes.resume_status.Goals as goal

pub byte-requires : goal.byte-requires
unfolding fits_at
byte-requires c = fits-status point.Status _ refl (sym c.fits.ensures ∙ c.if-fits.true)

pub returns-then-fits : goal.returns-then-fits
unfolding after_status
returns-then-fits c =
    let fitted = sym c.fits.ensures ∙ c.if-fits.true in
    λ b. goes_to bus (at-point bus 8 c.requires refl) fitted c.stand_released.ensures refl
    (simp (← c.byte.ensures, ← c.suspended-down.ensures))

pub returns : goal.returns
unfolding after_status
returns c =
    λ b. stays_at bus (at-point bus 8 c.requires refl) (sym c.fits.ensures ∙ c.if-fits.false)
