use Rattle.script_ops.proofs.slots.arm.Goals as goal

pub returns : goal.returns
returns c =
    record {
      value = c.slot_addr-at.ensures;
      s_after = simp (c.store_ep.ensures.s_after, c.armed.ensures, c.slot_addr-at.ensures);
      buf_after = simp (c.iso_out_arm.ensures, c.slot_addr-at.ensures);
      s_unchanged = c.store_ep.ensures.s_unchanged;
    }
