use mathlib.Core.Path.{refl, sym, ◌∙◌}
use Rattle.script_ops.specs.Rings.{enqueue_on, room_on, queued_on}
use Rattle.script_ops.specs.RingLaws.{room_fits}
use Rattle.script_ops.proofs.rings.iso_in_enqueue.Goals as goal

pub returns-then-not-takes : goal.returns-then-not-takes
unfolding enqueue_on room_on
returns-then-not-takes c =
    record {
      s_after = simp (← c.takes.ensures, c.if-not-takes.true, ← c.load_ep-r.ensures);
      buf_after = simp (← c.takes.ensures, c.if-not-takes.true, ← c.load_ep-r.ensures);
      s_unchanged = refl;
    }

pub length16-requires : goal.length16-requires
length16-requires c =
    room_fits c.load_ep-r.result _ (sym c.takes.ensures ∙ c.if-not-takes.false)

pub returns : goal.returns
unfolding enqueue_on room_on queued_on
returns c =
    record {
      s_after = simp (
        c.store_ep.ensures.s_after,
        c.store_len.ensures.s_after,
        ← c.joined.ensures,
        ← c.slot_index-i.ensures,
        c.length16.ensures,
        ← c.takes.ensures,
        c.if-not-takes.false,
        ← c.load_ep-r.ensures,
      );
      buf_after = simp (
        c.copy_in.ensures,
        ← c.slot_addr.ensures,
        ← c.takes.ensures,
        c.if-not-takes.false,
        ← c.load_ep-r.ensures,
      );
      s_unchanged = c.store_ep.ensures.s_unchanged ∙ c.store_len.ensures.s_unchanged;
    }
