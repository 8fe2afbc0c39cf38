use Rattle.machine.proofs.StandsLaws.{parts4}
use Rattle.machine.proofs.PointsStandsLaws.{at-point, goes_to}
use Rattle.machine.specs.BusLaws.{bus}
use Rattle.bus.specs.declared.Point.TheVariants as point
use mathlib.Core.Path.{refl}
use Rattle.machine.proofs.bus_resumes.resume_words.Goals as goal

pub returns : goal.returns
returns c =
    let here = at-point bus 21 c.requires (parts4 point.Words c.dir_at-d.ensures c.ep_byte-e.ensures
    c.iso_at-iso.ensures c.on_at-on.ensures) in
    λ v b. goes_to bus here refl c.stand_typed.ensures c.after_words-q.ensures.awaited (c.after_words-q.ensures.by_index b)
