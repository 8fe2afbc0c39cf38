use Rattle.machine.proofs.PointsStandsLaws.{at-point, goes_to}
use Rattle.machine.specs.DriverLaws.{driver}
use Rattle.driver.specs.declared.Point.TheVariants as point
use mathlib.Core.Path.{refl, ap}
use Rattle.machine.proofs.driver_resumes.resume_wait.Goals as goal

pub returns : goal.returns
returns c =
    λ v b. goes_to driver (at-point driver 1 c.requires (ap point.Wait c.on_at-on.ensures)) refl
    c.stand_reset.ensures refl refl
