use Rattle.machine.proofs.StandsLaws.{parts3}
use Rattle.machine.proofs.PointsStandsLaws.{at-point, goes_to, comes-to}
use Rattle.machine.specs.BusLaws.{bus}
use Rattle.bus.specs.Points.{switching, woken}
use Rattle.bus.specs.declared.Point.TheVariants as point
use mathlib.Core.Path.{refl, sym, ◌∙◌}
use Rattle.machine.proofs.bus_resumes.resume_switch.Goals as goal

pub returns-then-n-eq0 : goal.returns-then-n-eq0
unfolding switching woken
returns-then-n-eq0 c =
    let here = at-point bus 23 c.requires (parts3 point.Switch c.ep_byte-e.ensures c.on_at-on.ensures
    (sym c.if-n-eq0.true ∙ c.st_byte-n.ensures)) in
    λ v. comes-to bus here refl c.stop.ensures (simp c.wake.ensures.s_after)

pub returns : goal.returns
unfolding switching woken
returns c =
    let here = at-point bus 23 c.requires
    (parts3 point.Switch c.ep_byte-e.ensures c.on_at-on.ensures c.st_byte-n.ensures) in
    λ v. goes_to bus here refl c.stand_switch.ensures c.after_switch-q.ensures.awaited c.after_switch-q.ensures.buf_after
