use Rattle.std.proofs.Common.{arith}
use Rattle.card.specs.Rooms.{part-bytes}
use Rattle.card.specs.Streams.{view}
use Rattle.card.proofs.reading.copy_data.Goals as goal

pub returns : goal.returns
returns c =
    part-bytes (view c.args.stream.now) c.args.d c.args.room.now _ c.args.at _ c.args.n (omega arith)
    (omega arith) c.fill_data.ensures
