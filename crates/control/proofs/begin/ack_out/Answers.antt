use mathlib.Core.Path.{refl, ◌∙◌}
use Rattle.regs.specs.declared.Dir.TheVariants.{Out}
use Rattle.control.specs.declared.Point.TheVariants as point
use Rattle.control.specs.PointsLaws.{asked-at, linked-at}
use Rattle.control.proofs.begin.ack_out.Goals as goal

pub returns-then-first : goal.returns-then-first
returns-then-first c =
    record {
      b_value = λ d b. asked-at point.Wrote c.point.ensures d b ∙ rw (c.word_of-w.ensures, c.if-first.true);
      linked_begun = linked-at point.Wrote c.point.ensures refl;
    }

pub returns : goal.returns
returns c =
    record {
      b_value = λ d b. asked-at (point.Ack Out) c.point-2.ensures d b ∙ rw c.if-first.false;
      linked_begun = linked-at (point.Ack Out) c.point-2.ensures refl;
    }
