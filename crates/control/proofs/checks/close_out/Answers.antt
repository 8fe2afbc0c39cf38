use Rattle.control.proofs.checks.close_out.Goals as goal

pub returns : goal.returns
returns c =
    record {
      s_after = simp (c.store_ep.ensures.s_after, ← c.load_ep-r.ensures);
      s_unchanged = c.store_ep.ensures.s_unchanged;
    }
