use Rattle.machine.proofs.StandsLaws.{parts2}
use Rattle.machine.proofs.PointsStandsLaws.{at-point, goes_to}
use Rattle.machine.specs.BusLaws.{bus}
use Rattle.bus.specs.declared.Point.TheVariants as point
use mathlib.Core.Path.{refl}
use Rattle.machine.proofs.bus_resumes.resume_placed_out.Goals as goal

pub returns : goal.returns
returns c =
    let here = at-point bus 18 c.requires (parts2 point.PlacedOut c.ep_byte-e.ensures c.on_at-on.ensures) in
    λ v b. goes_to bus here refl c.stand_words.ensures c.after_placed_out-q.ensures.awaited (c.after_placed_out-q.ensures.by_index v _ b)
