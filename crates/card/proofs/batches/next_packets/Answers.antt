use Rattle.std.proofs.Common.{sym, ◌∙◌}
use Rattle.std.proofs.lemmas.Result.{err_from_is_err_and}
use Rattle.card.proofs.BatchLaws.{batch-torn, batch-room-torn, batch-taken, batch-room}
use Rattle.card.specs.Rooms.{torn, untorn}
use Rattle.card.proofs.batches.next_packets.Goals as goal

pub returns-in_err-in_blocks : goal.returns-in_err-in_blocks
returns-in_err-in_blocks c =
    let p = err_from_is_err_and c.from_residual.result c.from_residual.ensures.1 in
    let t = torn c.args.stream.now _ (sym c.in_blocks.ensures ∙ c.in_err-in_blocks.was) in
    record {
      value = rw (p.1, p.2, t.1) (batch-torn c.args.stream.now _ _ t.0);
      room_after = batch-room-torn c.args.stream.now _ c.args.room.now t.0;
    }

pub returns : goal.returns
returns c =
    let whole = untorn c.args.stream.now (sym c.in_blocks.ensures ∙ c.in_ok-in_blocks.was) in
    record {
      value = c.answer.ensures ∙ batch-taken c.args.stream.now _ _ _ whole c.take.ensures.takes;
      room_after = c.take.ensures.room_after
          ∙ batch-room c.args.stream.now _ c.args.room.now whole;
    }
