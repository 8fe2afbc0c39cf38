use Rattle.machine.proofs.PointsStandsLaws.{goes_to}
use Rattle.machine.specs.DriverLaws.{driver}
use Rattle.driver.specs.declared.Point.TheVariants as point
use Rattle.machine.specs.declared.Suspended.TheVariants as under
use mathlib.Core.Bool.{Bool}
use mathlib.Core.Path.{◌∙◌, refl, ap, sym}
use Rattle.machine.proofs.driver_resumes.resume_clear.Goals as goal

pub returns : goal.returns
returns c =
    λ v b. goes_to driver (c.requires ∙ ap (λ (on : Bool). under.Driver (point.Clear on)) (sym c.on_at-on.ensures))
    refl c.stand_wait.ensures refl refl
