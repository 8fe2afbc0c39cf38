use Rattle.std.proofs.Common.{◌∙◌, arith}
use Rattle.ring.proofs.Slot.{len_short, len-fits}
use Rattle.ring.proofs.marks.marked_len.Goals as goal

pub returns-then-buf-a : goal.returns-then-buf-a
returns-then-buf-a c = len_short c.args.buf.now c.args.at c.args.max (omega arith)

pub returns : goal.returns
returns c = c.len_part.ensures ∙ len-fits c.args.buf.now c.args.at c.args.max (omega arith)
