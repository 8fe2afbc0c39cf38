use Rattle.std.proofs.Common.{arith}
use Rattle.ring.proofs.Slot.{copied-short, copied-fits}
use Rattle.ring.proofs.marks.copy_in.Goals as goal

pub returns-then-buf-a : goal.returns-then-buf-a
returns-then-buf-a c = copied-short c.args.buf.now c.args.at c.args.packet.now (omega arith)

pub returns-then-buf-a-2 : goal.returns-then-buf-a-2
returns-then-buf-a-2 c = copied-short c.args.buf.now c.args.at c.args.packet.now (omega arith)

pub returns : goal.returns
returns c =
    copied-fits c.args.buf.now c.copy.new.part c.args.at c.args.packet.now (omega arith) c.copy.ensures
