use Rattle.machine.proofs.StandsLaws.{parts3}
use Rattle.machine.proofs.PointsStandsLaws.{at-point, goes_to}
use Rattle.machine.specs.BusLaws.{bus}
use Rattle.bus.specs.declared.Point.TheVariants as point
use mathlib.Core.Bool.{true}
use mathlib.Core.Path.{refl}
use Rattle.machine.proofs.bus_resumes.resume_placed_in.Goals as goal

pub returns : goal.returns
returns c =
    let here = at-point bus 19 c.requires (parts3 point.PlacedIn c.ep_byte-e.ensures c.iso_at-iso.ensures
    c.on_at-on.ensures) in
    λ v b. goes_to bus here refl c.stand_no_length.ensures (c.after_placed_in-q.ensures.awaited true true) (c.after_placed_in-q.ensures.b_value _ _ v _ b)
