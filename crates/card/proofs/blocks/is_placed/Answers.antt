use Rattle.std.proofs.Common.{◌≡◌, ℕ, ◌+◌, ◌*◌, ◌%◌, eqb, ap, arith}
use Rattle.card.specs.Streams.{number_at, placed}
use Rattle.card.proofs.blocks.is_placed.Goals as goal

pub returns : goal.returns
unfolding placed
returns c =
    let e : c.pair_at-low.result + c.pair_at-high.result * 65536 ≡ number_at c.args.stream.now c.args.k =
    omega (arith, c.pair_at-low.ensures.value, c.pair_at-high.ensures.value) in
    ap (λ (n : ℕ). eqb n (c.args.k % 4294967296)) e
