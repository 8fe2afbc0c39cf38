-- Laws on the definitions of Seen.antt
use Rattle.std.specs.Prelude.{◌≡◌, ℕ, ◌+◌, ◌-◌, ◌/◌, ◌≤◌}
use Rattle.std.proofs.Common.{sym, arith}
use Rattle.card.specs.Reading.{View, block_end, clean_to, clean_up_to}
use Rattle.card.proofs.Clean.{clean-join}
use Rattle.card.specs.Seen.{Seen}

pub seen_none : (v : View) (d : ℕ) → Seen v d (d / 504)
unfolding clean_to
seen_none v d =
    let e : d / 504 - d / 504 ≡ 0 = omega arith in
    record { low = omega arith; high = omega arith; good = rw e (omega arith) }

-- the blocks behind some that are good
pub clean-behind : (v : View) (a b e : ℕ) → a ≤ b → b ≤ e → b ≤ clean_to v a (b - a) → clean_to v b (e - b)
    ≡ clean_to v a (e - a)
clean-behind v a b e l h c =
    let x : a + (b - a) ≡ b = omega arith in
    let y : (b - a) + (e - b) ≡ e - a = omega arith in
    sym (rw (y, x) at (clean-join v (b - a) (e - b) a (omega arith)))

pub seen_clean : (v : View) (d first : ℕ) → Seen v d first
    → clean_to v first (block_end (d + 3) - first) ≡ clean_up_to v d (d + 3)
seen_clean v d first s = clean-behind v (d / 504) first (block_end (d + 3)) s.low s.high s.good
