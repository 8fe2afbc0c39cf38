use mathlib.Core.Path.{ap₂, ◌∙◌}
use mathlib.Core.List.{List}
use Prim.Native.Nat.{ℕ}
use Rattle.card.specs.Packet.{packet_of}
use Rattle.card.specs.declared.writer.Writer.{Writer}
use Rattle.recorder.specs.Ring.{ring_of, packet_ring}
use Rattle.recorder.specs.RecordingLaws.{begin-refused, begin-is}
use Rattle.recorder.proofs.recording.begin.Goals as goal

pub returns-then-room-ne2048 : goal.returns-then-room-ne2048
returns-then-room-ne2048 c =
    let r = begin-refused c.args.survey c.args.room.now c.if-room-ne2048.true in
    record { value = r.0; room_after = r.1 }

pub returns : goal.returns
returns c =
    let first = c.put_packet-w.ensures
    ∙ ap₂ (λ (l : List ℕ) (w : Writer). packet_ring 4 (packet_of 15 l) (ring_of w c.args.room.now)) c.begin_bytes-bytes.ensures c.new.ensures in
    let r = begin-is c.args.survey c.args.room.now _ _ c.if-room-ne2048.false first c.put_end.ensures in
    record { value = r.0; room_after = r.1 }
