use mathlib.Core.Path.{◌∙◌}
use Rattle.script_ops.proofs.slots.write_packet.Goals as goal

pub returns : goal.returns
returns c =
    record {
      s_after = simp (c.store_stamp.ensures.s_after, c.store_len.ensures.s_after, c.requires);
      s_unchanged = c.store_stamp.ensures.s_unchanged ∙ c.store_len.ensures.s_unchanged;
    }
