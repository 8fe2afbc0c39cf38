use Rattle.machine.proofs.PointsStandsLaws.{at-point, goes_to}
use Rattle.machine.specs.DriverLaws.{driver}
use Rattle.driver.specs.declared.Point.TheVariants as point
use mathlib.Core.Path.{refl, ap}
use Rattle.machine.proofs.driver_resumes.resume_ep0_place.Goals as goal

pub returns : goal.returns
returns c =
    λ v b. goes_to driver (at-point driver 9 c.requires (ap point.Ep0Place c.value_word-maximum.ensures)) refl
    c.stand_ep0_max_len.ensures refl refl
