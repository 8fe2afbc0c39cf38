use Rattle.std.proofs.Common.{◌/◌, arith}
use Rattle.ring.proofs.Slot.{armed-short, armed-fits, armed-words-fit}
use Rattle.ring.proofs.marks.iso_out_arm.Goals as goal

pub returns-then-buf-a : goal.returns-then-buf-a
returns-then-buf-a c = armed-short c.args.buf.now c.args.at c.args.max (omega arith)

pub returns-then-at-eq0 : goal.returns-then-at-eq0
returns-then-at-eq0 c =
    armed-words-fit c.args.buf.now _ c.args.at (c.args.at / 4) c.args.max _ (omega arith) c.armed_words-n.ensures (omega arith) c.mark_aligned.ensures

pub returns : goal.returns
returns c =
    armed-fits c.args.buf.now c.mark_words.new.part c.args.at c.args.max _ c.armed_words-n.ensures (omega arith) c.mark_words.ensures
