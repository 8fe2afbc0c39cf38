use Rattle.std.proofs.Common.{arith, drop, length-drop}
use Rattle.card.specs.PasteLaws.{part-filled}
use Rattle.card.proofs.reading.copy_run.Goals as goal

pub returns : goal.returns
returns c =
    part-filled c.args.room.now (drop c.args.from c.args.stream.now) _ c.args.at _ c.args.n (omega arith) (omega arith)
    (omega (arith, length-drop c.args.from c.args.stream.now)) c.fill_run.ensures
