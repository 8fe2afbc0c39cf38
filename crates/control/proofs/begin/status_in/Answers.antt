use mathlib.Core.Path.{refl, ◌∙◌}
use Rattle.control.specs.declared.Point.TheVariants as point
use Rattle.control.specs.PointsLaws.{asked-at, linked-at}
use Rattle.control.proofs.begin.status_in.Goals as goal

pub returns : goal.returns
returns c =
    record {
      by_index = λ b. asked-at point.StatusLen c.point.ensures _ b
          ∙ rw (c.unready.ensures.s_after, c.clear_wakes.ensures.s_after);
      s_unchanged = c.unready.ensures.s_unchanged ∙ c.clear_wakes.ensures.s_unchanged;
      linked_begun = linked-at point.StatusLen
          c.point.ensures refl;
    }
