use Rattle.machine.proofs.PointsStandsLaws.{at-point, follows}
use Rattle.machine.specs.Loads.{place_at}
use Rattle.machine.specs.DriverLaws.{driver}
use mathlib.Core.Path.{refl, ap}
use Rattle.machine.proofs.driver_resumes.resume_list_place.Goals as goal

pub returns : goal.returns
returns c =
    let here = at-point driver 16 c.requires (ap place_at c.list_endpoint_at-x.ensures) in
    λ v b. follows driver here refl (c.announce_after.ensures.steps_to b) c.announce_after.ensures.stored refl
