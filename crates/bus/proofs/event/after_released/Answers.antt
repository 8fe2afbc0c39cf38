use mathlib.Core.Path.{refl}
use Rattle.bus.specs.Points.{after_released}
use Rattle.bus.proofs.event.after_released.Goals as goal

pub returns : goal.returns
unfolding after_released
returns c =
    record {
      b_after = λ down b. simp (c.set_int_en.ensures.s_after, c.with_suspend-word.ensures, c.load_globals-g.ensures);
      s_unchanged = c.set_int_en.ensures.s_unchanged;
      by_index = λ n. refl;
    }
