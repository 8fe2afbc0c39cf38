use Rattle.machine.proofs.PointsStandsLaws.{at-point, comes-to}
use Rattle.machine.specs.DriverLaws.{driver}
use mathlib.Core.Path.{refl}
use Rattle.machine.proofs.driver_resumes.resume_ep0_packet.Goals as goal

pub returns : goal.returns
returns c =
    λ v b. comes-to driver (at-point driver 13 c.requires refl) refl c.stop.ensures refl
