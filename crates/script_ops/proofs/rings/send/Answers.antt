use mathlib.Core.Path.{refl}
use Rattle.script_ops.specs.Rings.{send_addr, send_on}
use Rattle.script_ops.proofs.rings.send.Goals as goal

pub returns-then-has_waiting : goal.returns-then-has_waiting
unfolding send_addr send_on
returns-then-has_waiting c =
    record {
      value = simp (c.slot_addr-at.ensures, c.load_ep-r.ensures);
      s_after = simp (
        c.store_ep.ensures.s_after,
        ← c.loaded.ensures,
        c.if-has_waiting.true,
        ← c.has_waiting.ensures,
        ← c.load_ep-r.ensures,
      );
      s_unchanged = c.store_ep.ensures.s_unchanged;
    }

pub returns : goal.returns
unfolding send_addr send_on
returns c =
    record {
      value = simp (c.slot_addr-at.ensures, c.load_ep-r.ensures);
      s_after = simp (c.if-has_waiting.false, ← c.has_waiting.ensures, ← c.load_ep-r.ensures);
      s_unchanged = refl;
    }
