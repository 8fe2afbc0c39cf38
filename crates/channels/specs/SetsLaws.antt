-- Totals over sets. Assumes nothing.
use Rattle.std.specs.Prelude.{◌≡◌, refl, Bool, true, false, cond, ℕ, zero, suc, ◌+◌, ◌-◌, ◌/◌, ◌%◌, ◌^◌, ◌≤◌, ◌<◌}
use Rattle.std.proofs.Math.Decide.{dec_lt}
use Rattle.std.proofs.Common.{sym, ap, ◌∙◌, add-one, arith}
use Rattle.std.proofs.Math.Nat.{zero-div}
use Rattle.bits.specs.Bit.{bit_is_set}
use Rattle.bits.specs.BitLaws.{one_set, bit_not, set-high}
use Rattle.channels.specs.Sets.{part_of, total, sum}

none-set : (j : ℕ) → bit_is_set 0 j ≡ false
unfolding bit_is_set
none-set j = rw (zero-div (2 ^ j))

pub total-none : (f : ℕ → ℕ) (w : ℕ) → total f w 0 ≡ 0
unfolding total
total-none f w = refl

pub total-more : (f : ℕ → ℕ) (w i : ℕ) → total f w (i + 1) ≡ total f w i + part_of (f i) w i
unfolding total
total-more f w i = rw add-one

-- from a place on that has no bit behind it nothing is added
pub total-rest : (f : ℕ → ℕ) (w i n : ℕ) → w / 2 ^ i ≡ 0 → i ≤ n → total f w n ≡ total f w i
unfolding total
total-rest f w i zero h l = (let e : i ≡ 0 = omega arith in rw e)
total-rest f w i (suc n) h l = elim (dec_lt n i) [
  | yes g ↦ (let e : i ≡ suc n = omega arith in rw e refl)
  | no g ↦
      let e : i + (n - i) ≡ n = omega arith in
      let z : bit_is_set (w / 2 ^ i) (n - i) ≡ false = rw h (none-set (n - i)) in
      let b : bit_is_set w n ≡ false = rw e at (sym (set-high i w (n - i)) ∙ z) in
      rw (b, total-rest f w i n h (omega arith)) (omega arith)
]

-- ---- the set of all of 16 channels, 0xFFFF

pub all_in : (i : ℕ) → i < 16 → bit_is_set 65535 i ≡ true
all_in i h = one_set 65535 i (bit_not 16 i 0 h (omega arith) ∙ ap (λ (x : ℕ). 1 - x % 2) (zero-div (2 ^ i)))

pub total-all : (f : ℕ → ℕ) (n : ℕ) → n ≤ 16 → total f 65535 n ≡ sum f n
unfolding total sum
total-all f zero h = refl
total-all f (suc i) h = rw (all_in i (omega arith), total-all f i (omega arith))

-- ---- bounds

part-most : (f : ℕ → ℕ) (w i : ℕ) → part_of (f i) w i ≤ f i
part-most f w i = go (bit_is_set w i)
  where
    go : (t : Bool) → cond t (f i) 0 ≤ f i
    go true = omega arith
    go false = omega arith

-- no set's total is above the total of all
pub total-most : (f : ℕ → ℕ) (w n : ℕ) → total f w n ≤ sum f n
unfolding total sum
total-most f w zero = omega arith
total-most f w (suc i) = omega (arith, total-most f w i, part-most f w i)

-- the empty set
pub empty : (f : ℕ → ℕ) (n : ℕ) → total f 0 n ≡ 0
unfolding total bit_is_set
empty f zero = refl
empty f (suc i) = rw (zero-div (2 ^ i), empty f i)
