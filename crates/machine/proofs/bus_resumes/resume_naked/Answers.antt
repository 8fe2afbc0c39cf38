use Rattle.machine.proofs.PointsStandsLaws.{at-point, goes_to}
use Rattle.machine.specs.BusLaws.{bus}
use Rattle.bus.specs.declared.Point.TheVariants as point
use mathlib.Core.Path.{refl, ap}
use Rattle.machine.proofs.bus_resumes.resume_naked.Goals as goal

pub after_naked-q-requires : goal.after_naked-q-requires
after_naked-q-requires c = c.if-e-lt15.true

pub returns-then-e-lt15 : goal.returns-then-e-lt15
returns-then-e-lt15 c =
    λ v b. goes_to bus (at-point bus 13 c.requires (ap point.Naked c.ep_byte-e.ensures)) refl
    c.stand_nak_in.ensures c.after_naked-q.ensures.awaited (c.after_naked-q.ensures.b_value _ b)

pub returns : goal.returns
returns c =
    λ v b. goes_to bus (at-point bus 13 c.requires
    (ap point.Naked c.ep_byte-e.ensures)) refl c.stand_disabled.ensures c.after_last-q.ensures.awaited
    (c.after_last-q.ensures.by_index _ c.if-e-lt15.false b)
