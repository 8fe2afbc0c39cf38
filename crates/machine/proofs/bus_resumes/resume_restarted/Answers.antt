use Rattle.machine.proofs.StandsLaws.{parts2}
use Rattle.machine.proofs.PointsStandsLaws.{at-point, comes-to}
use Rattle.machine.specs.BusLaws.{bus}
use Rattle.bus.specs.declared.Point.TheVariants as point
use mathlib.Core.Path.{refl}
use Rattle.machine.proofs.bus_resumes.resume_restarted.Goals as goal

pub returns : goal.returns
returns c =
    let here = at-point bus 5 c.requires (parts2 point.Restarted c.ep_byte-e.ensures c.iso_at-iso.ensures) in
    λ v b. comes-to bus here refl c.stop.ensures (c.after_restart.ensures.by_index b)
