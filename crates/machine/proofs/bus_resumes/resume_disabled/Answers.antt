use Rattle.machine.proofs.PointsStandsLaws.{at-point, goes_to}
use Rattle.machine.specs.BusLaws.{bus}
use mathlib.Core.Path.{refl}
use Rattle.machine.proofs.bus_resumes.resume_disabled.Goals as goal

pub returns : goal.returns
returns c =
    λ v b. goes_to bus (at-point bus 14 c.requires refl) refl c.stand_untyped.ensures c.after_disabled-q.ensures.awaited
    (c.after_disabled-q.ensures.follows v b)
