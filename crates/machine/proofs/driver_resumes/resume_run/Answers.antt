use Rattle.machine.proofs.PointsStandsLaws.{at-point, goes_to}
use Rattle.machine.specs.DriverLaws.{driver}
use Rattle.driver.specs.declared.Point.TheVariants as point
use mathlib.Core.Path.{refl, ap}
use Rattle.machine.proofs.driver_resumes.resume_run.Goals as goal

pub returns : goal.returns
returns c =
    λ v b. goes_to driver (at-point driver 5 c.requires
    (ap point.Run c.on_at-on.ensures)) refl c.stand_int_en.ensures refl
    (simp (c.set_int_en.ensures.s_after, c.at_start-enables.ensures))
