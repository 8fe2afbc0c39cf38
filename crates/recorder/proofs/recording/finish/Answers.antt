use mathlib.Core.Path.{ap, ◌∙◌}
use Rattle.card.specs.declared.writer.Writer.{Writer}
use Rattle.recorder.specs.Ring.{ring_of, packet_ring, padding}
use Rattle.recorder.specs.RecordingLaws.{busy-room, busy-left, not-busy, finish-refused, finish-is}
use Rattle.recorder.proofs.recording.finish.Goals as goal

pub returns-then-room-ne2048 : goal.returns-then-room-ne2048
returns-then-room-ne2048 c =
    let r = finish-refused c.args.r c.args.overruns c.args.room.now (busy-room c.args.r c.args.room.now c.if-room-ne2048.true) in
    record { value = r.0; room_after = r.1 }

pub returns-then-r-ne0 : goal.returns-then-r-ne0
returns-then-r-ne0 c =
    let r = finish-refused c.args.r c.args.overruns c.args.room.now (busy-left c.args.r c.args.room.now c.if-room-ne2048.false c.if-r-ne0.true) in
    record { value = r.0; room_after = r.1 }

pub returns : goal.returns
returns c =
    let free = not-busy c.args.r c.args.room.now c.if-room-ne2048.false c.if-r-ne0.false in
    let padded = c.put_padding-w.ensures
    ∙ ap (λ (w : Writer). packet_ring 4 (padding w.used) (ring_of w c.args.room.now))
    c.writer_of.ensures in
    let r = finish-is c.args.r _ c.args.overruns c.args.room.now _ _ _ free padded c.put_end.ensures
    c.left_of-left.ensures c.after.ensures in
    record { value = r.0; room_after = r.1 }
