use Rattle.std.proofs.Common.{◌∙◌, arith}
use Rattle.ring.proofs.Slot.{marked-short, marked-fits}
use Rattle.ring.proofs.marks.is_marked.Goals as goal

pub returns-then-buf-a : goal.returns-then-buf-a
returns-then-buf-a c = marked-short c.args.buf.now c.args.at (omega arith)

pub returns : goal.returns
returns c = c.is_mark.ensures ∙ marked-fits c.args.buf.now c.args.at (omega arith)
