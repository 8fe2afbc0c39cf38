use mathlib.Core.Path.{refl}
use Rattle.driver.specs.declared.Point.TheVariants as point
use Rattle.driver.specs.PointsLaws.{begun-at}
use Rattle.driver.proofs.new_endpoint.Goals as goal

pub returns : goal.returns
returns c = begun-at (point.MaxLen c.args.dir _ _) c.endpoint.ensures refl
