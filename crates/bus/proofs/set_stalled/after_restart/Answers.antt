use Rattle.bus.specs.Points.{after_restart}
use mathlib.Core.Path.{◌∙◌}
use Rattle.bus.proofs.set_stalled.after_restart.Goals as goal

pub returns-then-iso : goal.returns-then-iso
unfolding after_restart
returns-then-iso c =
    record {
      by_index = λ b. simp (c.wake.ensures.s_after, c.if-iso.true);
      s_unchanged = c.wake.ensures.s_unchanged;
    }

pub returns : goal.returns
unfolding after_restart
returns c =
    record {
      by_index = λ b. simp (
        c.wake-2.ensures.s_after,
        c.store_ep.ensures.s_after,
        c.load_ep-r.ensures,
        c.if-iso.false,
      );
      s_unchanged = c.wake-2.ensures.s_unchanged ∙ c.store_ep.ensures.s_unchanged;
    }
