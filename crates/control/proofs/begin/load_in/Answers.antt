use mathlib.Core.Path.{refl, ◌∙◌}
use Rattle.control.specs.declared.Point.TheVariants as point
use Rattle.control.specs.PointsLaws.{asked-at, linked-at}
use Rattle.control.proofs.begin.load_in.Goals as goal

pub returns-then-last : goal.returns-then-last
returns-then-last c =
    let at = point.Closing c.args.n
    c.args.first in
    record {
      by_index = λ b. asked-at at c.point.ensures _ b
          ∙ rw (
            c.close_out.ensures.s_after,
            c.word_of-w.ensures,
            c.if-last.true,
          );
      s_unchanged = c.close_out.ensures.s_unchanged;
      linked_begun = linked-at at c.point.ensures refl;
    }

pub returns : goal.returns
returns c =
    let at = point.Loaded c.args.first in
    record {
      by_index = λ b. asked-at at c.point-2.ensures _ b ∙ rw (
        c.set_armed.ensures.s_after,
        c.if-last.false,
      );
      s_unchanged = c.set_armed.ensures.s_unchanged;
      linked_begun = linked-at at c.point-2.ensures refl;
    }
