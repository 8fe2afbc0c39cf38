use Rattle.machine.proofs.StandsLaws.{parts3}
use Rattle.machine.proofs.PointsStandsLaws.{at-point, goes_to}
use Rattle.machine.specs.BusLaws.{bus}
use Rattle.bus.specs.declared.Point.TheVariants as point
use mathlib.Core.Path.{refl}
use Rattle.machine.proofs.bus_resumes.resume_no_length.Goals as goal

pub returns : goal.returns
returns c =
    let here = at-point bus 20 c.requires (parts3 point.NoLength c.ep_byte-e.ensures c.iso_at-iso.ensures
    c.on_at-on.ensures) in
    λ v b. goes_to bus here refl c.stand_words.ensures c.after_no_length-q.ensures.awaited (c.after_no_length-q.ensures.b_value _ b)
