use Rattle.machine.proofs.PointsStandsLaws.{at-point, goes_to, stays_at}
use Rattle.machine.specs.DriverLaws.{driver}
use Rattle.driver.specs.declared.Point.TheVariants as point
use mathlib.Core.Path.{refl, ap, sym, ◌∙◌}
use Rattle.machine.proofs.driver_resumes.resume_reset.Goals as goal

pub returns-then-fits : goal.returns-then-fits
returns-then-fits c =
    λ b. goes_to driver (at-point driver 2 c.requires (ap point.Reset c.on_at-on.ensures))
    (sym c.fits.ensures ∙ c.if-fits.true) c.stand_reset_end.ensures refl (simp c.reset_ended-w.ensures)

pub returns : goal.returns
returns c =
    λ b. stays_at driver (at-point driver 2 c.requires refl) (sym c.fits.ensures ∙ c.if-fits.false)
