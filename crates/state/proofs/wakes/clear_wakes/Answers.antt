use Rattle.state.proofs.wakes.clear_wakes.Goals as goal

pub returns : goal.returns
returns c =
    record {
      s_after = c.store_count.ensures.s_after;
      s_unchanged = c.store_count.ensures.s_unchanged;
    }
