use Rattle.machine.proofs.PointsStandsLaws.{at-point, comes-to}
use Rattle.machine.specs.BusLaws.{bus}
use Rattle.bus.specs.declared.Point.TheVariants as point
use mathlib.Core.Path.{refl, ap}
use Rattle.machine.proofs.bus_resumes.resume_event.Goals as goal

pub returns : goal.returns
returns c =
    λ v b. comes-to bus (at-point bus 1 c.requires (ap point.Event c.st_byte-n.ensures)) refl c.stop.ensures refl
