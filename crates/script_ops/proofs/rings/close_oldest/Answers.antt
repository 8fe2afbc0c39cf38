use Rattle.script_ops.specs.Rings.{close_on}
use Rattle.script_ops.proofs.rings.close_oldest.Goals as goal

pub returns : goal.returns
unfolding close_on
returns c =
    record {
      s_after = simp (c.store_where.ensures.s_after, c.closed.ensures, c.is_on_half.ensures, c.load_ep-r.ensures);
      s_unchanged = c.store_where.ensures.s_unchanged;
    }
