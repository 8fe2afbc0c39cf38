use Rattle.bus.specs.Points.{after_reset}
use mathlib.Core.Path.{◌∙◌, refl}
use Rattle.bus.proofs.event.after_reset.Goals as goal

pub returns : goal.returns
unfolding after_reset
returns c =
    record {
      by_index = λ b. simp (
        c.set_int_en.ensures.s_after,
        c.with_bus_rst-word.ensures,
        c.load_globals-g.ensures,
        c.wake_all.ensures.s_after,
      );
      s_unchanged = c.set_int_en.ensures.s_unchanged ∙ c.wake_all.ensures.s_unchanged;
      awaited = refl;
    }
