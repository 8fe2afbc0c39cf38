use mathlib.Core.Path.{◌∙◌}
use Rattle.interrupt.proofs.tokens.sent.Goals as goal

pub returns : goal.returns
returns c =
    record {
      by_index = λ b. simp (c.wake.ensures.s_after, c.store_ep.ensures.s_after, c.load_ep-r.ensures);
      s_unchanged = c.wake.ensures.s_unchanged ∙ c.store_ep.ensures.s_unchanged;
    }
