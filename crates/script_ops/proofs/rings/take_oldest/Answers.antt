use Rattle.script_ops.specs.Rings.{take_on}
use Rattle.script_ops.proofs.rings.take_oldest.Goals as goal

pub returns : goal.returns
unfolding take_on
returns c =
    record {
      s_after = simp (c.store_where.ensures.s_after, c.closed.ensures, c.has_waiting.ensures, c.load_ep-r.ensures);
      s_unchanged = c.store_where.ensures.s_unchanged;
    }
