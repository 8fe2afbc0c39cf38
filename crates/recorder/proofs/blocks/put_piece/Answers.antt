use Rattle.std.proofs.Common.{sym, ◌∙◌, arith}
use Rattle.card.specs.Packet.{packet_of, Writable}
use Rattle.recorder.specs.RingLaws.{piece-wrote, not-refused, piece-parts}
use Rattle.recorder.proofs.blocks.put_piece.Goals as goal

pub returns-in-Ok : goal.returns-in-Ok
returns-in-Ok c =
    let p = packet_of c.args.endpoint c.args.bytes.now in
    let fine : Writable p = record { numbered = omega arith; small = omega arith; short = omega arith } in
    let wrote = piece-wrote c.args.w p c.args.room.now _ _ (omega arith) fine c.write.ensures.value c.write.ensures.block_after in
    let piece = c.in-Ok.piece in
    let parts = piece-parts c.args.w p piece.next piece.full piece.done (sym c.in-Ok.is ∙ wrote.0) in
    record { next_value = parts.0; whole_value = parts.1; room_after = wrote.1 }

pub returns-in-Err : goal.returns-in-Err
returns-in-Err c =
    let p = packet_of c.args.endpoint c.args.bytes.now in
    let fine : Writable p = record { numbered = omega arith; small = omega arith; short = omega arith } in
    let wrote = piece-wrote c.args.w p c.args.room.now _ _ (omega arith) fine c.write.ensures.value c.write.ensures.block_after in
    absurd (not-refused c.args.w p _ (sym c.in-Err.is ∙ wrote.0))
