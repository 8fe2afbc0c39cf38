use Rattle.script_ops.proofs.slots.reset_one.Goals as goal

pub returns : goal.returns
returns c =
    record {
      s_after = simp (c.store_ep.ensures.s_after, c.by_loan.ensures, c.load_ep-r.ensures);
      s_unchanged = c.store_ep.ensures.s_unchanged;
    }
