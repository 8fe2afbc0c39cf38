use Rattle.script_ops.specs.Rings.{open_on}
use Rattle.script_ops.proofs.rings.open_oldest.Goals as goal

pub returns : goal.returns
unfolding open_on
returns c =
    record {
      s_after = simp (c.store_where.ensures.s_after, c.opened.ensures, c.has_waiting.ensures, c.load_ep-r.ensures);
      s_unchanged = c.store_where.ensures.s_unchanged;
    }
