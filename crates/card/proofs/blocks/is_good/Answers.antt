use Rattle.std.proofs.Common.{sym, ◌∙◌, arith}
use Rattle.card.proofs.ReaderLaws.{good-outside, good-elsewhere, good-here}
use Rattle.card.proofs.blocks.is_good.Goals as goal

pub returns-then-stream-k : goal.returns-then-stream-k
returns-then-stream-k c = good-outside c.args.stream.now c.args.k (omega arith)

pub returns-then-not-is_placed : goal.returns-then-not-is_placed
returns-then-not-is_placed c =
    good-elsewhere c.args.stream.now c.args.k (omega arith) (sym c.is_placed.ensures ∙ c.if-not-is_placed.true)

pub returns : goal.returns
returns c =
    c.is_checked.ensures
    ∙ good-here c.args.stream.now c.args.k (omega arith) (sym c.is_placed.ensures ∙ c.if-not-is_placed.false)
