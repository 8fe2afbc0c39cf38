use Rattle.machine.proofs.PointsStandsLaws.{at-point, goes_to}
use Rattle.machine.specs.BusLaws.{bus}
use mathlib.Core.Path.{refl}
use Rattle.machine.proofs.bus_resumes.resume_reset.Goals as goal

pub returns : goal.returns
returns c =
    λ v b. goes_to bus (at-point bus 17 c.requires refl) refl c.stand_event.ensures c.after_reset-q.ensures.awaited
    (c.after_reset-q.ensures.by_index b)
