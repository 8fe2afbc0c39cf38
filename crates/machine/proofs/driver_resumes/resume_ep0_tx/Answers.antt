use Rattle.machine.proofs.PointsStandsLaws.{at-point, goes_to}
use Rattle.machine.specs.DriverLaws.{driver}
use mathlib.Core.Path.{refl}
use Rattle.machine.proofs.driver_resumes.resume_ep0_tx.Goals as goal

pub returns : goal.returns
returns c =
    λ v b. goes_to driver (at-point driver 12 c.requires refl) refl c.stand_ep0_packet.ensures refl refl
