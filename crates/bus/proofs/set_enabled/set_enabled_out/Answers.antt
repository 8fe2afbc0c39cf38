use Rattle.bus.specs.Points.{after_words, woken}
use mathlib.Core.Path.{◌∙◌, refl}
use Rattle.bus.specs.declared.Point.TheVariants as point
use Rattle.bus.specs.PointsLaws.{begun-at}
use Rattle.bus.proofs.set_enabled.set_enabled_out.Goals as goal

pub returns : goal.returns
unfolding after_words woken
returns c =
    let begun = begun-at (point.PlacedOut _ c.args.on)
    c.point.ensures refl in (
      λ b. begun.0 _ b ∙ simp (
        c.place-at.ensures.value,
        c.place-at.ensures.s_after,
        c.renew.ensures.s_after,
        c.flag_of.ensures,
      ),
      (c.place-at.ensures.s_unchanged ∙ c.renew.ensures.s_unchanged, begun.1),
    )
