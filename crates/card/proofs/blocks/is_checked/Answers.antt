use Rattle.std.proofs.Common.{◌≡◌, ℕ, ◌+◌, ◌-◌, ◌*◌, eqb, take, drop, ap, ◌∙◌, ap₂, arith}
use Rattle.card.specs.Crc.{data_crc}
use Rattle.card.specs.Streams.{checked}
use Rattle.card.proofs.blocks.is_checked.Goals as goal

pub returns : goal.returns
unfolding checked
returns c =
    let n : c.args.k * 512 + 510 - c.args.k * 512 ≡ 510 = omega arith in
    ap₂ eqb c.pair_at.ensures.value
    (c.data_crc-crc.ensures ∙ ap (λ (m : ℕ). data_crc (take m (drop (c.args.k * 512) c.args.stream.now))) n)
