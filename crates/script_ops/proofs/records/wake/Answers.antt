use Rattle.script_ops.proofs.records.wake.Goals as goal

pub returns : goal.returns
returns c =
    record {
      s_after = simp (c.wake.ensures.s_after, c.wake_code-code.ensures);
      s_unchanged = c.wake.ensures.s_unchanged;
    }
