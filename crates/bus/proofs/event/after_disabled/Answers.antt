use mathlib.Core.Path.{refl}
use Rattle.bus.proofs.event.after_disabled.Goals as goal

pub returns : goal.returns
returns c =
    record {
      follows = λ v b. simp c.set_ep_type.ensures.s_after;
      s_unchanged = c.set_ep_type.ensures.s_unchanged;
      awaited = refl;
    }
