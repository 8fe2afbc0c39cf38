use Rattle.machine.proofs.StandsLaws.{parts2}
use Rattle.machine.proofs.PointsStandsLaws.{at-point, comes-to}
use Rattle.machine.specs.BusLaws.{bus}
use Rattle.bus.specs.Points.{woken}
use Rattle.bus.specs.declared.Point.TheVariants as point
use mathlib.Core.Path.{refl}
use Rattle.machine.proofs.bus_resumes.resume_woken.Goals as goal

pub returns : goal.returns
unfolding woken
returns c =
    let here = at-point bus 6 c.requires (parts2 point.Woken c.dir_at-d.ensures c.ep_byte-e.ensures) in
    λ v b. comes-to bus here refl c.stop.ensures (simp c.wake.ensures.s_after)
