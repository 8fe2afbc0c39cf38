use mathlib.Core.Path.{refl}
use Rattle.script_ops.proofs.rings.store_where.Goals as goal

pub returns-then-yes : goal.returns-then-yes
returns-then-yes c =
    record {
      s_after = simp (c.store_ep.ensures.s_after, c.if-yes.true);
      s_unchanged = c.store_ep.ensures.s_unchanged;
    }

pub returns-else-yes : goal.returns-else-yes
returns-else-yes c =
    record {
      s_after = simp c.if-yes.false;
      s_unchanged = refl;
    }
