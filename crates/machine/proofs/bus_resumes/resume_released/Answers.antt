use Rattle.machine.proofs.PointsStandsLaws.{at-point, goes_to}
use Rattle.machine.specs.BusLaws.{bus}
use Rattle.bus.specs.declared.Point.TheVariants as point
use mathlib.Core.Bool.{true, false}
use mathlib.Core.Path.{refl, ap, sym, ◌∙◌}
use Rattle.machine.proofs.bus_resumes.resume_released.Goals as goal

pub returns-then-down : goal.returns-then-down
returns-then-down c =
    let here = at-point bus 9 c.requires (ap point.Released (sym c.if-down.true ∙ c.iso_at-down.ensures)) in
    λ v b. goes_to bus here refl c.stand_event.ensures (c.after_released-q.ensures.by_index 3) (c.after_released-q.ensures.b_after true b)

pub returns : goal.returns
returns c =
    let here = at-point bus 9 c.requires (ap point.Released (sym c.if-down.false ∙ c.iso_at-down.ensures)) in
    λ v b. goes_to bus here refl c.stand_event-2.ensures (c.after_released-q.ensures.by_index 4) (c.after_released-q.ensures.b_after false b)
