use Rattle.machine.proofs.PointsStandsLaws.{at-point, goes_to}
use Rattle.machine.specs.BusLaws.{bus}
use mathlib.Core.Path.{refl}
use Rattle.machine.proofs.bus_resumes.resume_single.Goals as goal

pub returns : goal.returns
returns c =
    λ v b. goes_to bus (at-point bus 16 c.requires refl) refl c.stand_reset.ensures c.after_single-q.ensures.awaited
    (c.after_single-q.ensures.follows v b)
