use Rattle.script_ops.proofs.records.wake_bus.Goals as goal

pub returns : goal.returns
returns c =
    record {
      s_after = c.wake.ensures.s_after;
      s_unchanged = c.wake.ensures.s_unchanged;
    }
