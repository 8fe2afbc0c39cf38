use mathlib.Core.Path.{refl, ◌∙◌}
use Rattle.driver.specs.declared.Point.TheVariants as point
use Rattle.driver.specs.PointsLaws.{begun-at}
use Rattle.driver.proofs.start_ep0.Goals as goal

pub returns : goal.returns
returns c =
    let begun = begun-at (point.Ep0Place _) c.point.ensures refl in
    (λ b. begun.0 _ b ∙ simp c.load_globals-g.ensures, begun.1)
