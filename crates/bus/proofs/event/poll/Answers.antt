use Rattle.bus.specs.Points.{after_flags, after_released, after_status}
use mathlib.Core.Path.{refl, ◌∙◌}
use Rattle.bus.specs.declared.Point.TheVariants as point
use Rattle.bus.specs.PointsLaws.{begun-at}
use Rattle.bus.proofs.event.poll.Goals as goal

pub returns-then-is_on : goal.returns-then-is_on
unfolding after_flags after_status after_released
returns-then-is_on c =
    let begun = begun-at point.Flags c.point.ensures refl in (
      λ b. begun.0 _ b ∙ simp (
        ← c.load_globals-g.ensures,
        ← c.is_on.ensures,
        c.if-is_on.true,
      ),
      (refl, begun.1),
    )

pub returns : goal.returns
unfolding after_flags after_status after_released
returns c = (
  λ b. simp (
    c.store_globals.ensures.s_after,
    ← c.is_on.ensures,
    c.if-is_on.false,
    ← c.load_globals-g.ensures,
  ),
  (c.store_globals.ensures.s_unchanged, tt),
)
