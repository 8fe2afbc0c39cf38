use Rattle.machine.proofs.PointsStandsLaws.{at-point, goes_to}
use Rattle.machine.specs.ControlLaws.{control}
use mathlib.Core.Path.{refl}
use Rattle.machine.proofs.control_resumes.resume_status_len.Goals as goal

pub returns : goal.returns
returns c =
    λ v b. goes_to control (at-point control 2 c.requires refl) refl c.stand_status.ensures refl refl
