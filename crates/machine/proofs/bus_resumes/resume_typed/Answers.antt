use Rattle.machine.proofs.StandsLaws.{parts3}
use Rattle.machine.proofs.PointsStandsLaws.{at-point, goes_to}
use Rattle.machine.specs.BusLaws.{bus}
use Rattle.bus.specs.declared.Point.TheVariants as point
use mathlib.Core.Path.{refl}
use Rattle.machine.proofs.bus_resumes.resume_typed.Goals as goal

pub returns : goal.returns
returns c =
    let here = at-point bus 22 c.requires (parts3 point.Type c.dir_at-d.ensures
    c.ep_byte-e.ensures c.on_at-on.ensures) in
    λ v b. goes_to bus here refl c.stand_woken.ensures c.after_type-q.ensures.awaited (c.after_type-q.ensures.by_index b)
