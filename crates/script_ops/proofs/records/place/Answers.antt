use mathlib.Core.Path.{refl}
use Rattle.script_ops.specs.Rings.{place_on}
use Rattle.script_ops.proofs.records.place.Goals as goal

pub returns-then-receiving : goal.returns-then-receiving
unfolding place_on
returns-then-receiving c =
    record {
      value = simp (
        c.load_ep-r.ensures,
        c.in-Out.is,
        ← c.receiving.ensures,
        c.if-receiving.true,
      );
      s_after = simp (c.in-Out.is, ← c.receiving.ensures, c.if-receiving.true);
      s_unchanged = refl;
    }

pub returns-in-In : goal.returns-in-In
unfolding place_on
returns-in-In c =
    record {
      value = simp (c.in-In.is, c.load_ep-r.ensures);
      s_after = simp c.in-In.is;
      s_unchanged = refl;
    }

pub returns-else-receiving : goal.returns-else-receiving
unfolding place_on
returns-else-receiving c =
    record {
      value = simp (
        c.load_ep-r.ensures,
        c.in-Out.is,
        ← c.receiving.ensures,
        c.if-receiving.false,
      );
      s_after = simp (
        c.store_ep.ensures.s_after,
        c.armed.ensures,
        c.in-Out.is,
        ← c.receiving.ensures,
        c.if-receiving.false,
        c.load_ep-r.ensures,
      );
      s_unchanged = c.store_ep.ensures.s_unchanged;
    }
