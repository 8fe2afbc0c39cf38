use mathlib.Core.Path.{refl, ◌∙◌}
use Rattle.driver.specs.declared.Point.TheVariants as point
use Rattle.driver.specs.PointsLaws.{begun-at}
use Rattle.driver.proofs.announce.first.Goals as goal

pub returns : goal.returns
returns c =
    let begun = begun-at (point.ListMaxLen c.args.dir _ _ _ _) c.endpoint.ensures
    refl in
    record {
      by_index = λ b. begun.0 _ b ∙ simp (← c.load_ep-r.ensures);
      linked = begun.1;
    }
