use mathlib.Core.Path.{refl}
use borrow.Author.Tests.{eq-eqb, ne_eqb}
use Rattle.script_ops.proofs.slots.renew_first.Goals as goal

pub returns-then-k-eq15 : goal.returns-then-k-eq15
returns-then-k-eq15 c =
    record {
      s_after = simp (c.renew.ensures.s_after, eq-eqb _ _ c.if-k-eq15.true);
      s_unchanged = c.renew.ensures.s_unchanged;
    }

pub returns : goal.returns
returns c =
    record {
      s_after = simp (ne_eqb _ _ c.if-k-eq15.false);
      s_unchanged = refl;
    }
