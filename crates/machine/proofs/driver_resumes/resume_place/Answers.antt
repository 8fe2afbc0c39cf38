use Rattle.machine.proofs.PointsStandsLaws.{at-point, comes-to}
use Rattle.machine.specs.DriverLaws.{driver}
use Rattle.driver.specs.declared.Point.TheVariants as point
use mathlib.Core.Path.{refl, ap}
use Rattle.machine.proofs.driver_resumes.resume_place.Goals as goal

pub returns : goal.returns
returns c =
    λ v b. comes-to driver (at-point driver 8 c.requires (ap point.Place c.ep_byte-ep.ensures)) refl
    c.stop.ensures refl
