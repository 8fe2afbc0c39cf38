use Rattle.machine.proofs.PointsStandsLaws.{at-point, goes_to}
use Rattle.machine.specs.DriverLaws.{driver}
use mathlib.Core.Path.{refl}
use Rattle.machine.proofs.driver_resumes.resume_ep0_rx.Goals as goal

pub returns : goal.returns
returns c =
    let here = at-point driver 11 c.requires refl in
    λ v b. goes_to driver here refl c.stand_ep0_tx.ensures refl (simp c.ep0_word-w.ensures)
