use mathlib.Core.Path.{ap, ◌∙◌}
use native.Mathlib.Omega.{arith}
use Rattle.card.specs.Packet.{packet_of}
use Rattle.card.specs.declared.writer.Writer.{Writer}
use Rattle.recorder.specs.Ring.{ring_of, record_ring}
use Rattle.recorder.specs.RecordingLaws.{busy-room, busy-left, not-busy, refuses-busy, refuses-long, refuses-zero}
use Rattle.recorder.specs.RecordingLaws.{refuses-high, taken}
use Rattle.recorder.specs.RecordingLaws.{record-refused, record-kept, record-flushed}
use Rattle.recorder.proofs.recording.record.Goals as goal

pub returns-then-room-ne2048 : goal.returns-then-room-ne2048
returns-then-room-ne2048 c =
    let p = packet_of c.args.endpoint c.args.bytes.now in
    let r = record-refused c.args.r p c.args.overruns c.args.room.now
    (refuses-busy c.args.r p c.args.room.now (busy-room c.args.r c.args.room.now c.if-room-ne2048.true)) in
    record { value = r.0; room_after = r.1 }

pub returns-then-r-ne0 : goal.returns-then-r-ne0
returns-then-r-ne0 c =
    let p = packet_of c.args.endpoint c.args.bytes.now in
    let busy = busy-left c.args.r c.args.room.now c.if-room-ne2048.false c.if-r-ne0.true in
    let r = record-refused c.args.r p c.args.overruns c.args.room.now (refuses-busy c.args.r p c.args.room.now busy) in
    record { value = r.0; room_after = r.1 }

pub returns-then-bytes-gt1024 : goal.returns-then-bytes-gt1024
returns-then-bytes-gt1024 c =
    let p = packet_of c.args.endpoint c.args.bytes.now in
    let free = not-busy c.args.r c.args.room.now c.if-room-ne2048.false c.if-r-ne0.false in
    let r = record-refused c.args.r p c.args.overruns c.args.room.now (refuses-long c.args.r p c.args.room.now free (omega arith)) in
    record { value = r.0; room_after = r.1 }

pub returns-then-endpoint-eq0 : goal.returns-then-endpoint-eq0
returns-then-endpoint-eq0 c =
    let p = packet_of c.args.endpoint c.args.bytes.now in
    let free = not-busy c.args.r c.args.room.now c.if-room-ne2048.false c.if-r-ne0.false in
    let r = record-refused c.args.r p c.args.overruns c.args.room.now
    (refuses-zero c.args.r p c.args.room.now free (omega arith) c.if-endpoint-eq0.true) in
    record { value = r.0; room_after = r.1 }

pub returns-then-endpoint-gt15 : goal.returns-then-endpoint-gt15
returns-then-endpoint-gt15 c =
    let p = packet_of c.args.endpoint c.args.bytes.now in
    let free = not-busy c.args.r c.args.room.now c.if-room-ne2048.false c.if-r-ne0.false in
    let high = refuses-high c.args.r p c.args.room.now free (omega arith) c.if-endpoint-eq0.false (omega arith) in
    let r = record-refused c.args.r p c.args.overruns c.args.room.now high in
    record { value = r.0; room_after = r.1 }

pub returns-then-w-r : goal.returns-then-w-r
returns-then-w-r c =
    let p = packet_of c.args.endpoint c.args.bytes.now in
    let free = not-busy c.args.r c.args.room.now c.if-room-ne2048.false c.if-r-ne0.false in
    let fits = taken c.args.r p c.args.room.now free (omega arith) c.if-endpoint-eq0.false (omega arith) in
    let ring = c.put_record-w.ensures
    ∙ ap (λ (w : Writer). record_ring p (ring_of w c.args.room.now)) c.writer_of.ensures in
    let r = record-kept c.args.r _ p c.args.overruns c.args.room.now _ fits ring c.if-w-r.true c.after.ensures in
    record { value = r.0; room_after = r.1 }

pub returns : goal.returns
returns c =
    let p = packet_of c.args.endpoint c.args.bytes.now in
    let free = not-busy c.args.r c.args.room.now c.if-room-ne2048.false c.if-r-ne0.false in
    let fits = taken c.args.r p c.args.room.now free (omega arith) c.if-endpoint-eq0.false (omega arith) in
    let ring = c.put_record-w.ensures
    ∙ ap (λ (w : Writer). record_ring p (ring_of w c.args.room.now)) c.writer_of.ensures in
    let r = record-flushed c.args.r _ p c.args.overruns c.args.room.now _ _ _ fits ring c.if-w-r.false
    c.put_end.ensures c.left_of-left.ensures c.after-2.ensures in
    record { value = r.0; room_after = r.1 }
