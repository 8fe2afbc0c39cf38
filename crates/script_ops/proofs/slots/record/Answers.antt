use mathlib.Core.Path.{refl}
use Rattle.script_ops.specs.Rings.{recorded_on}
use Rattle.script_ops.proofs.slots.record.Goals as goal

pub write_packet-requires : goal.write_packet-requires
write_packet-requires c = c.requires.entered_value

pub returns-then-has_room_out : goal.returns-then-has_room_out
unfolding recorded_on
returns-then-has_room_out c =
    record {
      s_after = simp (
        c.write_packet.ensures.s_after,
        ← c.slot_index.ensures,
        c.if-has_room_out.true,
        ← c.has_room_out.ensures,
        ← c.requires.r_value,
      );
      s_unchanged = c.write_packet.ensures.s_unchanged;
    }

pub returns : goal.returns
unfolding recorded_on
returns c =
    record {
      s_after = simp (c.if-has_room_out.false, ← c.has_room_out.ensures, ← c.requires.r_value);
      s_unchanged = refl;
    }
