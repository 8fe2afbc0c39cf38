-- The totals of the set behind another, from the other's. In counting order the next set is without the first k
-- channels, if just these are in without a gap, and has channel k. Assumes nothing.
use Rattle.std.specs.Prelude.{◌≡◌, refl, Bool, true, false, ℕ, zero, suc, ◌+◌, ◌-◌, ◌*◌, ◌/◌, ◌%◌, ◌^◌, ◌≤◌, ◌<◌, ◌==◌}
use Rattle.std.proofs.Common.{◌≢◌, true≢false, inl, inr, sym, ap, ◌∙◌, arith, pow_pos, pow-suc, add-one, add-zero}
use Rattle.std.proofs.lemmas.Bool.{eq-eqb, ne_eqb}
use Rattle.std.proofs.Math.Decide.{dec_lt}
use Rattle.std.proofs.Math.Nat.{mul-div_cancel, add-mul, mul_assoc, mul_comm}
use Rattle.bits.specs.Bit.{bit, bit_is_set, with_bit}
use Rattle.bits.specs.BitLaws.{set-with, set-one, one_set, bit-cases}
use Rattle.channels.specs.Sets.{total}

-- ---- a channel joins a set

-- a bit beside the one that is made stays
set-other : (w k : ℕ) (on : Bool) (j : ℕ) → k ≢ j → bit_is_set (with_bit w k on) j ≡ bit_is_set w j
set-other w k on j h = rw (ne_eqb k j h) at (set-with w k on j)

set-same : (w k : ℕ) (on : Bool) → bit_is_set (with_bit w k on) k ≡ on
set-same w k on = rw (eq-eqb k k refl) at (set-with w k on k)

-- a channel behind those that are totalled
total-same : (f : ℕ → ℕ) (w k : ℕ) (on : Bool) (n : ℕ) → n ≤ k → total f (with_bit w k on) n ≡ total f w n
unfolding total
total-same f w k on zero h = refl
total-same f w k on (suc n) h = rw (set-other w k on n (λ e. omega (arith, e)), total-same f w k on n (omega arith))

-- one that joins adds its number
total-joins : (f : ℕ → ℕ) (w k n : ℕ) → bit_is_set w k ≡ false → k < n
    → total f (with_bit w k true) n ≡ total f w n + f k
unfolding total
total-joins f w k zero b l = absurd (omega arith)
total-joins f w k (suc n) b l = elim (dec_lt k n) [
  | yes g ↦ rw (set-other w k true n (λ e. omega (arith, e)), total-joins f w k n b g) (omega arith)
  | no g ↦
      let e : n ≡ k = omega arith in
      rw (e, set-same w k true, total-same f w k true k (omega arith), b) (omega arith)
]

-- ---- the sets that have none of the first k channels are the multiples of 2 ^ k

twice : (r k : ℕ) → r * 2 ^ suc k ≡ (r * 2) * 2 ^ k
twice r k = rw (pow-suc 2 k, mul_comm (2 ^ k) 2) (sym (mul_assoc r 2 (2 ^ k)))

-- an even one is without channel k
even : (r k : ℕ) → bit (r * 2 ^ suc k) k ≡ 0
even r k = rw (twice r k, mul-div_cancel (r * 2) {n = 2 ^ k} (pow_pos k)) (omega arith)

even-set : (r k : ℕ) → bit_is_set (r * 2 ^ suc k) k ≡ false
unfolding bit_is_set
even-set r k = rw (even r k) refl

-- the odd one behind it has this channel, too
odd : (r k : ℕ) → with_bit (r * 2 ^ suc k) k true ≡ (r * 2 + 1) * 2 ^ k
unfolding with_bit
odd r k = rw (even r k, twice r k, add-mul (r * 2) 1 (2 ^ k)) (omega arith)

joins : (f : ℕ → ℕ) (r k n : ℕ) → k < n → total f ((r * 2 + 1) * 2 ^ k) n ≡ total f (r * 2 ^ (k + 1)) n + f k
joins f r k n h = rw (← odd r k, add-one) (total-joins f (r * 2 ^ suc k) k n (even-set r k) h)

-- of the first n channels none
behind : (f : ℕ → ℕ) (r n : ℕ) → total f (r * 2 ^ n) n ≡ 0
unfolding total
behind f r zero = refl
behind f r (suc n) = rw (even-set r n, add-zero) (ap (λ (x : ℕ). total f x n) (twice r n) ∙ behind f (r * 2) n)

-- ---- the walk: x is what is left of the set, shifted by k

is-odd : (x : ℕ) → bit_is_set x 0 ≡ true → x ≡ x / 2 * 2 + 1
is-odd x b = let e = set-one x 0 b in omega arith

is-even : (x : ℕ) → bit_is_set x 0 ≡ false → x ≡ x / 2 * 2
is-even x b = elim (bit-cases x 0) [
  | inl e ↦ omega arith
  | inr e ↦ absurd (true≢false (sym (one_set x 0 e) ∙ b))
]

-- channel k leaves
pub next-leaves : (f : ℕ → ℕ) (x k n : ℕ) → bit_is_set x 0 ≡ true → k < n
    → total f (x * 2 ^ k) n ≡ total f (x / 2 * 2 ^ (k + 1)) n + f k
next-leaves f x k n b h = ap (λ (y : ℕ). total f (y * 2 ^ k) n) (is-odd x b) ∙ joins f (x / 2) k n h

pub next-gap : (x k : ℕ) → bit_is_set x 0 ≡ true → (x + 1) * 2 ^ k ≡ (x / 2 + 1) * 2 ^ (k + 1)
next-gap x k b =
    let e : x + 1 ≡ (x / 2 + 1) * 2 = (let o = is-odd x b in omega arith) in
    ap (λ (y : ℕ). y * 2 ^ k) e ∙ sym (twice (x / 2 + 1) k) ∙ ap (λ (y : ℕ). (x / 2 + 1) * 2 ^ y) (sym (add-one k))

-- channel k joins, and the walk is at its end
pub next-joins : (f : ℕ → ℕ) (w x k n : ℕ) → w + 1 ≡ (x + 1) * 2 ^ k → bit_is_set x 0 ≡ false → k < n
    → total f (w + 1) n ≡ total f (x * 2 ^ k) n + f k
next-joins f w x k n g b h =
    let e = is-even x b in
    ap (λ (y : ℕ). total f y n) g ∙ ap (λ (y : ℕ). total f ((y + 1) * 2 ^ k) n) e ∙ joins f (x / 2) k n h
    ∙ ap (λ (y : ℕ). total f y n + f k) (ap (λ (y : ℕ). x / 2 * 2 ^ y) (add-one k) ∙ twice (x / 2) k
    ∙ ap (λ (y : ℕ). y * 2 ^ k) (sym e))

-- all have left
pub next-none : (f : ℕ → ℕ) (w x n : ℕ) → w + 1 ≡ (x + 1) * 2 ^ n → total f (x * 2 ^ n) n ≡ total f (w + 1) n
next-none f w x n g = behind f x n ∙ sym (ap (λ (y : ℕ). total f y n) g ∙ behind f (x + 1) n)
