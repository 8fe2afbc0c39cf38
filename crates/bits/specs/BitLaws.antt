-- Laws on the definitions of Bit.antt
use Rattle.std.specs.Prelude.{◌≡◌, ℕ, zero, suc, ◌+◌, ◌-◌, ◌*◌, ◌/◌, ◌%◌, ◌^◌, ◌<◌, ◌≤◌, min, Bool, true, false, ◌⊎◌, ◌==◌, bit_or, nat_eq, refl}
use Rattle.std.proofs.Common.{ap, ◌∙◌, sym, inl, inr, mod-lt, pow-suc, add_comm, mod-eq_of_lt, lt_of_le_of_lt, add-one, arith, eqb-true, eq-eqb, pow_pos, shr-shr}
use Rattle.std.specs.Int.Bits.{bit_and, or_zero_r, and_step, or_step}
use Rattle.std.proofs.lemmas.Nat.{and_shr, and_mod, and_mask, and_le_l, or_lt}
use Rattle.std.proofs.Math.Dec.{eqb-zero-suc, eqb-suc-zero, eqb-suc-suc}
use Rattle.std.proofs.Math.Pow.{pow-lt}
use Rattle.bits.specs.Pack.{one_shifted}
use Rattle.bits.specs.Bit.{bit, bit_is_set, digit, with_bit, pick, both}

pub bit-suc : (w j : ℕ) → bit w (suc j) ≡ bit (w / 2) j
bit-suc w j = ap (λ (x : ℕ). w / 2 ^ x % 2) (sym (add-one j) ∙ add_comm j 1)
    ∙ ap (λ (x : ℕ). x % 2) (sym (shr-shr w 1 j))

-- a set bit is 1, a clear one 0
pub bit-cases : (w j : ℕ) → (bit w j ≡ 0) ⊎ (bit w j ≡ 1)
bit-cases w j = go (bit w j) (mod-lt (w / 2 ^ j) (pow_pos 1))
  where
    go : (b : ℕ) → b < 2 → (b ≡ 0) ⊎ (b ≡ 1)
    go zero h = inl refl
    go (suc zero) h = inr refl
    go (suc (suc b)) h = absurd (omega arith)

-- a word has what its set bit stands for
pub bit_le : (w j : ℕ) → bit w j ≡ 1 → 2 ^ j ≤ w
bit_le w zero h = omega arith
bit_le w (suc j) h = let e = pow-suc 2 j in let i = bit_le (w / 2) j (sym (bit-suc w j) ∙ h) in omega arith

pub bit-and : (a b j : ℕ) → bit (bit_and a b) j ≡ bit_and (bit a j) (bit b j)
bit-and a b j = ap (λ (x : ℕ). x % 2) (and_shr a b j) ∙ and_mod (a / 2 ^ j) (b / 2 ^ j) 1

-- `!a` in a word of n bits
pub bit_not : (n j a : ℕ) → j < n → a < 2 ^ n → bit ((2 ^ n - 1) - a) j ≡ 1 - bit a j
bit_not zero j a h l = absurd (omega arith)
bit_not (suc n) zero a h l = let e = pow-suc 2 n in omega arith
bit_not (suc n) (suc j) a h l =
    let e = pow-suc 2 n in
    let half : ((2 ^ suc n - 1) - a) / 2 ≡ (2 ^ n - 1) - a / 2 = omega arith in
    bit-suc ((2 ^ suc n - 1) - a) j ∙ ap (λ (x : ℕ). bit x j) half ∙ bit_not n j (a / 2) (omega arith) (omega arith)
    ∙ ap (λ (x : ℕ). 1 - x) (sym (bit-suc a j))

-- ---- setting and clearing, one place up

-- bit j + 1 is bit j of the half
pub with-suc : (w j : ℕ) (on : Bool) → with_bit w (suc j) on ≡ with_bit (w / 2) j on * 2 + w % 2
unfolding with_bit
with-suc w j on = rw (bit-suc w j, pow-suc 2 j) (go (bit (w / 2) j) refl on)
  where
    go : (b : ℕ) → bit (w / 2) j ≡ b → (on : Bool) → w - b * (2 ^ j * 2) + digit on * (2 ^ j * 2)
        ≡ (w / 2 - b * 2 ^ j + digit on * 2 ^ j) * 2 + w % 2
    go zero e true = omega arith
    go zero e false = omega arith
    go (suc zero) e true = let h = bit_le (w / 2) j e in omega arith
    go (suc zero) e false = let h = bit_le (w / 2) j e in omega arith
    go (suc (suc b)) e on = let h = mod-lt (w / 2 / 2 ^ j) (pow_pos 1) in absurd (omega arith)

with-half : (w j : ℕ) (on : Bool) → with_bit w (suc j) on / 2 ≡ with_bit (w / 2) j on
with-half w j on = let e = with-suc w j on in omega arith

-- the bit is as it was made, and the others as they were
pub bit-with : (w k : ℕ) (on : Bool) (j : ℕ) → bit (with_bit w k on) j ≡ pick (k == j) (digit on) (bit w j)
unfolding with_bit
bit-with w zero true zero = omega arith
bit-with w zero false zero = omega arith
bit-with w zero on (suc j) =
    bit-suc (with_bit w 0 on) j ∙ ap (λ (x : ℕ). bit x j) (half on) ∙ sym (bit-suc w j) ∙ simp (eqb-zero-suc j)
  where
    half : (t : Bool) → with_bit w 0 t / 2 ≡ w / 2
    half true = omega arith
    half false = omega arith
bit-with w (suc k) on zero = let e = with-suc w k on in simp (eqb-suc-zero k) (omega arith)
bit-with w (suc k) on (suc j) =
    bit-suc (with_bit w (suc k) on) j ∙ ap (λ (x : ℕ). bit x j) (with-half w k on) ∙ bit-with (w / 2) k on j
    ∙ ap (pick (k == j) (digit on)) (sym (bit-suc w j))
    ∙ ap (λ (t : Bool). pick t (digit on) (bit w (suc j))) (sym (eqb-suc-suc k j))

-- `w | 1 << k` sets bit k
pub or-sets : (w k : ℕ) → bit_or w (2 ^ k) ≡ with_bit w k true
unfolding with_bit
or-sets w zero = let e = rw (or_zero_r (w / 2)) at (or_step w 1) in omega arith
or-sets w (suc k) =
    let p = pow-suc 2 k in
    let h : 2 ^ suc k / 2 ≡ 2 ^ k = omega arith in
    let z : 2 ^ suc k % 2 ≡ 0 = omega arith in
    let e = rw (h, z) at (or_step w (2 ^ suc k)) in
    let i = or-sets (w / 2) k in
    let s = with-suc w k true in
    omega arith

-- `w & !1` clears bit 0
and-clears-first : (n w : ℕ) → w < 2 ^ suc n → bit_and w ((2 ^ suc n - 1) - 1) ≡ with_bit w 0 false
unfolding with_bit
and-clears-first n w l =
    let p = pow-suc 2 n in
    let q = pow_pos n in
    let a : ((2 ^ suc n - 1) - 1) / 2 ≡ 2 ^ n - 1 = omega arith in
    let z : ((2 ^ suc n - 1) - 1) % 2 ≡ 0 = omega arith in
    let e = rw (a, z, and_mask (w / 2) n) at (and_step w ((2 ^ suc n - 1) - 1)) in
    let m : w / 2 % 2 ^ n ≡ w / 2 = mod-eq_of_lt (omega arith) in
    omega arith

-- `w & !(1 << k)` clears bit k in a word of n bits
pub and-clears : (n w k : ℕ) → w < 2 ^ n → k < n → bit_and w ((2 ^ n - 1) - 2 ^ k) ≡ with_bit w k false
and-clears zero w k l h = absurd (omega arith)
and-clears (suc n) w zero l h = and-clears-first n w l
and-clears (suc n) w (suc k) l h =
    let p = pow-suc 2 n in
    let q = pow-suc 2 k in
    let lt : 2 ^ k < 2 ^ n = pow-lt {i = k} {j = n} (omega arith) in
    let a : ((2 ^ suc n - 1) - 2 ^ suc k) / 2 ≡ (2 ^ n - 1) - 2 ^ k = omega arith in
    let z : ((2 ^ suc n - 1) - 2 ^ suc k) % 2 ≡ 1 = omega arith in
    rw (a, z) at (and_step w ((2 ^ suc n - 1) - 2 ^ suc k))
    ∙ ap (λ (x : ℕ). x * 2 + min (w % 2) 1) (and-clears n (w / 2) k (omega arith) (omega arith))
    ∙ ap (λ (x : ℕ). with_bit (w / 2) k false * 2 + x) (low w)
    ∙ sym (with-suc w k false)
  where
    low : (m : ℕ) → min (m % 2) 1 ≡ m % 2
    low m = omega arith

-- ---- the same as the code writes it, in a word of n bits

-- `w >> k & 1 == 1`
pub tests : (w k : ℕ) → (bit_and (w / 2 ^ k) 1 == 1) ≡ bit_is_set w k
unfolding bit_is_set
tests w k = ap (λ (x : ℕ). nat_eq x 1) (and_mask (w / 2 ^ k) 1)

-- `w | 1 << k`
pub sets : (n w k : ℕ) → k < n → bit_or w (1 * 2 ^ k % 2 ^ n) ≡ with_bit w k true
sets n w k h = ap (bit_or w) (one_shifted n k h) ∙ or-sets w k

-- `w & !(1 << k)`
pub clears : (n w k : ℕ) → w < 2 ^ n → k < n → bit_and w ((2 ^ n - 1) - 1 * 2 ^ k % 2 ^ n) ≡ with_bit w k false
clears n w k l h = ap (λ (x : ℕ). bit_and w ((2 ^ n - 1) - x)) (one_shifted n k h) ∙ and-clears n w k l h

-- ---- the same by answers

-- a set bit is 1
pub set-one : (w j : ℕ) → bit_is_set w j ≡ true → bit w j ≡ 1
unfolding bit_is_set
set-one w j e = eqb-true (bit w j) 1 e

pub one_set : (w j : ℕ) → bit w j ≡ 1 → bit_is_set w j ≡ true
unfolding bit_is_set
one_set w j e = eq-eqb (bit w j) 1 e

-- the bit is as it was made, and the others as they were
pub set-with : (w k : ℕ) (on : Bool) (j : ℕ) → bit_is_set (with_bit w k on) j ≡ pick (k == j) on (bit_is_set w j)
unfolding bit_is_set
set-with w k on j = ap (λ (x : ℕ). nat_eq x 1) (bit-with w k on j) ∙ go (k == j) on
  where
    go : (t on : Bool) → (pick t (digit on) (bit w j) == 1) ≡ pick t on (bit w j == 1)
    go true true = refl
    go true false = refl
    go false on = refl

-- `a & b` has the bits that both have
pub set-and : (a b j : ℕ) → bit_is_set (bit_and a b) j ≡ both (bit_is_set a j) (bit_is_set b j)
unfolding bit_is_set
set-and a b j = ap (λ (x : ℕ). nat_eq x 1) (bit-and a b j)
    ∙ go (bit a j) (bit b j) (mod-lt (a / 2 ^ j) (pow_pos 1)) (mod-lt (b / 2 ^ j) (pow_pos 1))
  where
    go : (x y : ℕ) → x < 2 → y < 2 → (bit_and x y == 1) ≡ both (x == 1) (y == 1)
    go zero y h k = refl
    go (suc zero) zero h k = refl
    go (suc zero) (suc zero) h k = refl
    go (suc zero) (suc (suc y)) h k = absurd (omega arith)
    go (suc (suc x)) y h k = absurd (omega arith)

pub set-high : (n w j : ℕ) → bit_is_set (w / 2 ^ n) j ≡ bit_is_set w (n + j)
unfolding bit_is_set
set-high n w j = ap (λ (x : ℕ). nat_eq (x % 2) 1) (shr-shr w n j)

-- a word of n bits stays one
pub with-lt : (n w k : ℕ) (on : Bool) → w < 2 ^ n → k < n → with_bit w k on < 2 ^ n
with-lt n w k true l h = rw (← or-sets w k) (or_lt n w (2 ^ k) l (pow-lt {i = k} {j = n} h))
with-lt n w k false l h = rw (← and-clears n w k l h) (lt_of_le_of_lt (and_le_l w ((2 ^ n - 1) - 2 ^ k)) l)

-- in a word of 32 bits, too: a low bit set or cleared leaves a word of n
module _ (n w k : ℕ) (on : Bool) (r : ℕ) (h : k % n < n) (m : n ≤ 32) (e : r ≡ with_bit w (k % n % 32) on) where
  pub low-with : r ≡ with_bit w (k % n) on
  low-with = let low : k % n % 32 ≡ k % n = mod-eq_of_lt (omega arith) in e ∙ ap (λ (j : ℕ). with_bit w j on) low

  pub low-lt : w < 2 ^ n → r < 2 ^ n
  low-lt l = rw low-with (with-lt n w (k % n) on l h)
