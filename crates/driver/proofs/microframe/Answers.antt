use mathlib.Core.Path.{refl}
use Rattle.driver.specs.declared.Point.TheVariants as point
use Rattle.driver.specs.PointsLaws.{begun-at}
use Rattle.driver.proofs.microframe.Goals as goal

pub returns : goal.returns
returns c = begun-at point.FrameNo c.point.ensures refl
