use Rattle.state.specs.Wakes.{listed}
use Rattle.interrupt.specs.Suspended.{decode}
use Rattle.answer.specs.WordLaws.{said}
use Rattle.answer.specs.Answering.{front-take}
use Rattle.interrupt.specs.Stands.{halted}
use Rattle.interrupt.specs.StandsLaws.{pinned-end}
use mathlib.Core.Path.{◌∙◌, refl}
use Rattle.interrupt.proofs.stands.stop.Goals as goal

pub returns : goal.returns
unfolding halted decode listed
returns c =
    let the_end = said _ _ c.ended.ensures refl in (
      λ b. record {
        there = simp (
          the_end,
          c.how_many-k.ensures.value,
          front-take,
          c.store_saved.ensures.s_unchanged,
          c.store_saved.ensures.s_after,
          c.nothing.ensures,
        );
      },
      pinned-end _ _ _ _ c.ended.ensures (c.store_saved.ensures.s_after ∙ c.nothing.ensures),
    )
