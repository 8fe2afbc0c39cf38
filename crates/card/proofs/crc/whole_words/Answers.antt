use Rattle.std.proofs.Common.{◌≡◌, ℕ, refl, ap, arith}
use Rattle.card.specs.Register.{over}
use Rattle.card.specs.Fold.{Even, odd, settled, remainder_of}
use Rattle.card.proofs.crc.whole_words.Goals as goal

seed-even : Even 0xFFFF
unfolding odd
seed-even = record { short = omega arith; even = refl }

seed-is : remainder_of 0xFFFF 0 ≡ 0xFFFF
unfolding remainder_of settled odd
seed-is = refl

pub loop-four-init : goal.loop-four-init
loop-four-init c = (seed-even, ap (λ (r : ℕ). over r c.args.bytes.now) seed-is)
