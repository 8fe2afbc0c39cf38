use Rattle.bus.specs.EventsLaws.{nak-none}
use Rattle.bus.specs.Points.{after_naked, after_reset}
use mathlib.Core.Path.{refl}
use Rattle.bus.proofs.event.after_last.Goals as goal

pub returns : goal.returns
unfolding after_naked after_reset
returns c =
    record {
      by_index = λ e h b. simp (c.set_ep_config.ensures.s_after, nak-none e h);
      s_unchanged = c.set_ep_config.ensures.s_unchanged;
      awaited = refl;
    }
