use Rattle.machine.proofs.PointsStandsLaws.{at-point, goes_to}
use Rattle.machine.specs.ControlLaws.{control}
use mathlib.Core.Path.{refl}
use Rattle.machine.proofs.control_resumes.resume_stalled_in.Goals as goal

pub returns : goal.returns
returns c =
    λ v b. goes_to control (at-point control 5 c.requires refl) refl c.stand_stall_out.ensures refl refl
