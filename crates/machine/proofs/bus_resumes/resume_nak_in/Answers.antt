use Rattle.machine.proofs.PointsStandsLaws.{at-point, goes_to}
use Rattle.machine.specs.BusLaws.{bus}
use Rattle.bus.specs.declared.Point.TheVariants as point
use mathlib.Core.Path.{refl, ap}
use Rattle.machine.proofs.bus_resumes.resume_nak_in.Goals as goal

pub returns : goal.returns
returns c =
    λ v b. goes_to bus (at-point bus 12 c.requires (ap point.NakIn c.ep_byte-e.ensures)) refl
    c.stand_naked.ensures c.after_nak_in-q.ensures.awaited (c.after_nak_in-q.ensures.by_index v _ b)
