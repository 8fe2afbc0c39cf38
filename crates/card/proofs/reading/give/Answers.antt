use Rattle.std.proofs.Common.{◌+◌, length, ◌∙◌, arith}
use Rattle.card.specs.Streams.{view}
use Rattle.card.specs.Rooms.{given-short, given-fits, put-short, put-fits, paste-front}
use Rattle.card.proofs.reading.give.Goals as goal

pub returns-then-room-n : goal.returns-then-room-n
returns-then-room-n c =
    record {
      value = given-short c.args.found (length c.args.room.now) (omega arith);
      room_after = put-short (view c.args.stream.now) c.args.found c.args.room.now (omega arith);
    }

pub returns : goal.returns
returns c =
    record {
      value = given-fits c.args.found (length c.args.room.now) (omega arith);
      room_after = put-fits (view c.args.stream.now) c.args.found c.args.room.now _ (omega arith)
          (c.copy_data.ensures ∙ paste-front (view c.args.stream.now)
          (c.args.found.at + 3) c.args.found.len c.args.room.now);
    }
