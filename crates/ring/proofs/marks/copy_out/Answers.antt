use Rattle.std.proofs.Common.{◌+◌, ◌-◌, arith}
use Rattle.ring.proofs.Slot.{out-short, out-small, out-fits}
use Rattle.ring.proofs.marks.copy_out.Goals as goal

pub returns-then-buf-e : goal.returns-then-buf-e
returns-then-buf-e c = out-short c.args.buf.now c.args.at c.args.out.now c.args.n (omega arith)

pub returns-then-out-k : goal.returns-then-out-k
returns-then-out-k c =
    out-small c.args.buf.now c.args.at c.args.out.now c.args.n (omega arith) (omega arith)

pub returns : goal.returns
returns c =
    out-fits c.args.buf.now c.args.at c.args.out.now c.args.n (c.args.at + c.args.n - c.args.at)
    c.copy.new.part (omega arith) (omega arith) (omega arith) c.copy.ensures
