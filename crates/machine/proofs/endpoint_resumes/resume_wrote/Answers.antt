use Rattle.machine.proofs.PointsStandsLaws.{comes-to}
use Rattle.machine.specs.EndpointLaws.{endpoint}
use mathlib.Core.Path.{refl}
use Rattle.machine.proofs.endpoint_resumes.resume_wrote.Goals as goal

pub returns : goal.returns
returns c = λ v b. comes-to endpoint c.requires refl c.stop.ensures refl
