use mathlib.Core.Path.{refl}
use Rattle.bus.specs.declared.Point.TheVariants as point
use Rattle.bus.specs.PointsLaws.{begun-at}
use Rattle.bus.proofs.events.enable.Goals as goal

pub returns : goal.returns
returns c = begun-at point.Enable c.point.ensures refl
