use Rattle.machine.proofs.PointsStandsLaws.{at-point, goes_to}
use Rattle.machine.specs.BusLaws.{bus}
use mathlib.Core.Path.{refl}
use Rattle.machine.proofs.bus_resumes.resume_ep0_out.Goals as goal

pub returns : goal.returns
returns c =
    λ v b. goes_to bus (at-point bus 11 c.requires refl) refl c.stand_naked.ensures c.after_ep0_out-q.ensures.awaited
    (c.after_ep0_out-q.ensures.by_index v _ b)
