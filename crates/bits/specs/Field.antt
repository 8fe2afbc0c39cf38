-- A field of a word: j bits from bit k up. Reading it and writing it by shifts and masks, over the word's width.
-- Assumes nothing.
use Rattle.std.specs.Prelude.{◌≡◌, ℕ, zero, suc, ◌+◌, ◌-◌, ◌*◌, ◌/◌, ◌%◌, ◌^◌, ◌<◌, ◌≤◌, min, max, bit_and, bit_or}
use Rattle.std.proofs.Common.{ap, ap₂, ◌∙◌, sym, div-one, pow-suc, add-zero, mul_assoc, mul-one, zero-mul, le_trans, lt_of_lt_of_le, mul-le-mul_right, div-mul-le_self, arith, pow_pos, pow_mono, shl_lt, shr-shr}
use Rattle.std.proofs.Math.Nat.{mod-le}
use Rattle.std.proofs.lemmas.Nat.{and_mask, or_shifted}
use Rattle.std.proofs.lemmas.Nat.Bits.{and_high}
use Rattle.std.specs.Int.Bits.{and_step, or_step}
use Rattle.std.proofs.Math.Pow.{ones_lt, shr_mod, split}

-- ---- definitions

abbrev pub field : ℕ → ℕ → ℕ → ℕ
field w k j = w / 2 ^ k % 2 ^ j

-- the word with the field made v, and every other bit as it was
abbrev pub with_field : ℕ → ℕ → ℕ → ℕ → ℕ
with_field w k j v = w - field w k j * 2 ^ k + v * 2 ^ k

-- all ones but in the field, in a word of n bits
abbrev pub outside : ℕ → ℕ → ℕ → ℕ
outside n k j = (2 ^ n - 1) - (2 ^ j - 1) * 2 ^ k

-- ---- laws

-- `w >> k & mask`
pub reads : (w k j : ℕ) → bit_and (w / 2 ^ k) (2 ^ j - 1) ≡ field w k j
reads w k j = and_mask (w / 2 ^ k) j

pub field-le : (w k j : ℕ) → field w k j * 2 ^ k ≤ w
field-le w k j = le_trans (mul-le-mul_right (2 ^ k) (mod-le (w / 2 ^ k) (2 ^ j))) (div-mul-le_self w (2 ^ k))

field-suc : (w k j : ℕ) → field w (suc k) j ≡ field (w / 2) k j
field-suc w k j = ap (λ (x : ℕ). x % 2 ^ j) (ap (λ (x : ℕ). w / 2 ^ x) (omega arith) ∙ sym (shr-shr w 1 k))

-- a field at the bottom
low-outside : (i j w : ℕ) → w < 2 ^ (i + j) → bit_and w (outside (i + j) 0 j) ≡ w / 2 ^ j * 2 ^ j
low-outside i j w l =
    let p = pow_pos j in
    let m : outside (i + j) 0 j ≡ 2 ^ (i + j) - 2 ^ j = omega arith in
    ap (bit_and w) m ∙ and_high w i j ∙ ap (λ (x : ℕ). x * 2 ^ j) (shr_mod i j l)

low-rest : (w j : ℕ) → w / 2 ^ j * 2 ^ j ≡ w - field w 0 j * 1
low-rest w j = let s = split w j in rw (div-one w) (omega arith)

-- a field one place up
outside-half : (n k j : ℕ) → (2 ^ j - 1) * 2 ^ k < 2 ^ n → outside (suc n) (suc k) j / 2 ≡ outside n k j
outside-half n k j l =
    let p = pow-suc 2 n in
    let q : (2 ^ j - 1) * 2 ^ suc k ≡ (2 ^ j - 1) * 2 ^ k * 2 = ap (λ (x : ℕ). (2 ^ j - 1) * x) (pow-suc 2 k)
    ∙ sym (mul_assoc (2 ^ j - 1) (2 ^ k) 2) in
    omega arith

outside-odd : (n k j : ℕ) → (2 ^ j - 1) * 2 ^ k < 2 ^ n → outside (suc n) (suc k) j % 2 ≡ 1
outside-odd n k j l =
    let p = pow-suc 2 n in
    let q : (2 ^ j - 1) * 2 ^ suc k ≡ (2 ^ j - 1) * 2 ^ k * 2 = ap (λ (x : ℕ). (2 ^ j - 1) * x) (pow-suc 2 k)
    ∙ sym (mul_assoc (2 ^ j - 1) (2 ^ k) 2) in
    omega arith

fits : (i j k n : ℕ) → n ≡ i + j + k → (2 ^ j - 1) * 2 ^ k < 2 ^ n
fits i j k n e = lt_of_lt_of_le (shl_lt j k (ones_lt j)) (pow_mono {i = j + k} {j = n} (omega arith))

-- `w & !(mask << k)`: the field made 0, with i bits above it
pub clears-field : (n i j k w : ℕ) → n ≡ i + j + k → w < 2 ^ n → bit_and w (outside n k j) ≡ with_field w k j 0
clears-field n i j zero w e l =
    let q : n ≡ i + j = e ∙ add-zero (i + j) in
    rw q (low-outside i j w (rw q at l) ∙ low-rest w j ∙ sym (add-zero (w - field w 0 j * 1)))
clears-field zero i j (suc k) w e l = absurd (omega arith)
clears-field (suc n) i j (suc k) w e l =
    let b = fits i j k n (omega arith) in
    let p = pow-suc 2 n in
    let x = field (w / 2) k j * 2 ^ k in
    let h : x ≤ w / 2 = field-le (w / 2) k j in
    let f : field w (suc k) j * 2 ^ suc k ≡ x * 2 = ap₂ ◌*◌ (field-suc w k j) (pow-suc 2 k)
    ∙ sym (mul_assoc (field (w / 2) k j) (2 ^ k) 2) in
    rw (outside-half n k j b, outside-odd n k j b) at (and_step w (outside (suc n) (suc k) j))
    ∙ ap (λ (y : ℕ). y * 2 + min (w % 2) 1) (clears-field n i j k (w / 2) (omega arith) (omega arith))
    ∙ last w x (field w (suc k) j * 2 ^ suc k) (0 * 2 ^ k) (0 * 2 ^ suc k) h f (zero-mul (2 ^ k)) (zero-mul (2 ^ suc k))
  where
    last : (w x y z u : ℕ) → x ≤ w / 2 → y ≡ x * 2 → z ≡ 0 → u ≡ 0 → (w / 2 - x + z) * 2 + min (w % 2) 1 ≡ w - y + u
    last w x y z u h f g o = omega arith

-- `w & !(mask << k) | v << k`: the field made v
pub puts-field : (n i j k w v : ℕ) → n ≡ i + j + k → w < 2 ^ n → v < 2 ^ j
    → bit_or (bit_and w (outside n k j)) (v * 2 ^ k) ≡ with_field w k j v
puts-field n i j zero w v e l b =
    let q : n ≡ i + j = e ∙ add-zero (i + j) in
    rw (q, mul-one v) (ap (λ (x : ℕ). bit_or x v) (low-outside i j w (rw q at l)) ∙ or_shifted (w / 2 ^ j) j v b
    ∙ ap (λ (x : ℕ). x + v) (low-rest w j))
puts-field zero i j (suc k) w v e l b = absurd (omega arith)
puts-field (suc n) i j (suc k) w v e l b =
    let m = fits i j k n (omega arith) in
    let p = pow-suc 2 n in
    let x = field (w / 2) k j * 2 ^ k in
    let h : x ≤ w / 2 = field-le (w / 2) k j in
    let f : field w (suc k) j * 2 ^ suc k ≡ x * 2 = ap₂ ◌*◌ (field-suc w k j) (pow-suc 2 k)
    ∙ sym (mul_assoc (field (w / 2) k j) (2 ^ k) 2) in
    let g : v * 2 ^ suc k ≡ v * 2 ^ k * 2 = ap (λ (y : ℕ). v * y) (pow-suc 2 k) ∙ sym (mul_assoc v (2 ^ k) 2) in
    let a = bit_and w (outside (suc n) (suc k) j) in
    let s : a ≡ bit_and (w / 2) (outside n k j) * 2 + w % 2 =
    rw (outside-half n k j m, outside-odd n k j m) at (and_step w (outside (suc n) (suc k) j))
    ∙ ap (λ (y : ℕ). bit_and (w / 2) (outside n k j) * 2 + y) (odd w) in
    step a (v * 2 ^ suc k) (bit_and (w / 2) (outside n k j)) (v * 2 ^ k) s g
    ∙ ap (λ (y : ℕ). y * 2 + w % 2) (puts-field n i j k (w / 2) v (omega arith) (omega arith) b)
    ∙ last w x (field w (suc k) j * 2 ^ suc k) (v * 2 ^ k) (v * 2 ^ suc k) h f g
  where
    odd : (m : ℕ) → min (m % 2) 1 ≡ m % 2
    odd m = omega arith

    even : (m : ℕ) → max (m % 2) 0 ≡ m % 2
    even m = omega arith

    step : (a b c d : ℕ) → a ≡ c * 2 + w % 2 → b ≡ d * 2 → bit_or a b ≡ bit_or c d * 2 + w % 2
    step a b c d ea eb =
        let a0 : a % 2 ≡ w % 2 = omega arith in
        let a1 : a / 2 ≡ c = omega arith in
        let b0 : b % 2 ≡ 0 = omega arith in
        let b1 : b / 2 ≡ d = omega arith in
        rw (a0, a1, b0, b1) at (or_step a b) ∙ ap (λ (y : ℕ). bit_or c d * 2 + y) (even w)

    last : (w x y z u : ℕ) → x ≤ w / 2 → y ≡ x * 2 → u ≡ z * 2 → (w / 2 - x + z) * 2 + w % 2 ≡ w - y + u
    last w x y z u h f g = omega arith
