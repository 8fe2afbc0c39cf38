use Rattle.std.proofs.Common.{ℕ, arith}
use lib.ListN.{length-replicate, get_or-replicate}
use Rattle.card.specs.PasteLaws.{one-pasted}
use Rattle.card.proofs.writer_blocks.put_zeros.Goals as goal

pub loop-i-preserved : goal.loop-i-preserved
loop-i-preserved c =
    let long = length-replicate {A = ℕ} c.args.n 0 in
    let zero = get_or-replicate c.args.n c.loop-i.i 0 0 (omega arith) in
    one-pasted _ _ _ c.args.n c.loop-i.block c.loop-i.i 0 c.loop-i.invariant zero (omega arith) (omega arith) (omega arith)
