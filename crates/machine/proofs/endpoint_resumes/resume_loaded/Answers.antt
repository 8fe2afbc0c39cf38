use Rattle.machine.proofs.PointsStandsLaws.{at-point, goes_to}
use Rattle.machine.specs.EndpointLaws.{endpoint}
use Rattle.endpoint.specs.declared.Point.TheVariants as point
use mathlib.Core.Path.{refl, ap}
use Rattle.machine.proofs.endpoint_resumes.resume_loaded.Goals as goal

pub returns : goal.returns
returns c =
    λ v b. goes_to endpoint (at-point endpoint 2 c.requires (ap point.Loaded c.ep_byte-e.ensures)) refl
    c.stand_ack_in.ensures refl refl
