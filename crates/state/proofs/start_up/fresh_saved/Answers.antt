use Rattle.std.proofs.Common.{◌∙◌}
use Rattle.state.proofs.start_up.fresh_saved.Goals as goal

pub returns : goal.returns
returns c =
    record {
      s_unchanged = c.store_saved.ensures.s_unchanged;
      s_after = c.store_saved.ensures.s_after ∙ c.nothing.ensures;
    }
