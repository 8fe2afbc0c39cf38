use mathlib.Core.Path.{refl, ◌∙◌}
use Rattle.driver.specs.declared.Point.TheVariants as point
use Rattle.driver.specs.PointsLaws.{begun-at}
use Rattle.driver.proofs.start_up.Goals as goal

pub returns : goal.returns
returns c =
    let begun = begun-at (point.Clear c.args.callback) c.point.ensures refl in
    (λ d b. begun.0 d b ∙ simp c.clear.ensures, begun.1)
