use Rattle.machine.proofs.PointsStandsLaws.{comes-to}
use Rattle.machine.specs.ControlLaws.{control}
use mathlib.Core.Path.{refl}
use Rattle.machine.proofs.control_resumes.resume_wrote.Goals as goal

pub returns : goal.returns
returns c = λ v b. comes-to control c.requires refl c.stop.ensures refl
