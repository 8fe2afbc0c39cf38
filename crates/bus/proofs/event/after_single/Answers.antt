use mathlib.Core.Path.{refl}
use Rattle.bus.proofs.event.after_single.Goals as goal

pub returns : goal.returns
returns c =
    record {
      follows = λ v b. simp c.reset_all.ensures.s_after;
      s_unchanged = c.reset_all.ensures.s_unchanged;
      awaited = refl;
    }
