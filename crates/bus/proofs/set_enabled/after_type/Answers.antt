use mathlib.Core.Path.{refl}
use Rattle.bus.specs.Points.{after_type}
use Rattle.bus.proofs.set_enabled.after_type.Goals as goal

pub returns : goal.returns
unfolding after_type
returns c =
    record {
      by_index = λ b. simp (c.load_globals-g.ensures, c.set_enabled.ensures.s_after);
      s_unchanged = c.set_enabled.ensures.s_unchanged;
      awaited = refl;
    }
