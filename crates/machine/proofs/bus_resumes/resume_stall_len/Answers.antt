use Rattle.machine.proofs.PointsStandsLaws.{at-point, goes_to}
use Rattle.machine.specs.BusLaws.{bus}
use Rattle.bus.specs.declared.Point.TheVariants as point
use mathlib.Core.Path.{refl, ap}
use Rattle.machine.proofs.bus_resumes.resume_stall_len.Goals as goal

pub returns : goal.returns
returns c =
    λ v b. goes_to bus (at-point bus 3 c.requires (ap point.StallLen c.ep_byte-e.ensures)) refl
    c.stand_stall_word.ensures c.after_stall_len-q.ensures.awaited (c.after_stall_len-q.ensures.by_index v _ b)
