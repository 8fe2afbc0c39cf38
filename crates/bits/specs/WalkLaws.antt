-- Laws on the definitions of Walk.antt
use Rattle.std.specs.Prelude.{◌≡◌, ℕ, zero, suc, ◌+◌, ◌-◌, ◌/◌, ◌%◌, ◌^◌, ◌<◌, ◌≤◌, true, false, ◌⊎◌, List, [], ◌∷◌, length, bit_and, refl}
use Rattle.std.proofs.Common.{ap, ◌∙◌, sym, inl, inr, ⊎_elim, add-suc, suc-add, add-zero, zero-add, mod-lt, pow-suc, eq-zero-or-pos, arith, pow_pos}
use Rattle.std.specs.Int.Bits.{and_step, and_self, and_zero_l}
use Rattle.std.proofs.lemmas.Nat.{and_le_r}
use Rattle.std.specs.Int.Count.{count_trailing_zeros}
use Rattle.bits.specs.Bit.{bit, bit_is_set, with_bit}
use Rattle.bits.specs.BitLaws.{bit-suc, set-one, one_set, with-suc}
use Rattle.bits.specs.Walk.{cons_if, bits_from, set_bits, lowest, rest}

-- a function of a state and an endpoint, over a list of endpoints in order
unfoldable pub each : {S : Type 0} → (S → ℕ → S) → S → List ℕ → S
each f s [] = s
each f s (e ∷ es) = each f (f s e) es

-- x stands in the list
abbrev pub In : ℕ → List ℕ → Type 0
In x [] = ⊥
In x (a ∷ l) = (x ≡ a) ⊎ In x l

-- each is greater than those before it, and the first at least i
abbrev pub Rising : ℕ → List ℕ → Type 0
Rising i [] = Unit {0}
Rising i (a ∷ l) = (i ≤ a) × Rising (suc a) l

-- ---- exactly the set bits, rising, so each once

in-more : (d i x : ℕ) (l : List ℕ) → In x l → In x (cons_if d i l)
in-more zero i x l m = m
in-more (suc d) i x l m = inr m

set-in : (k i m e : ℕ) → e < k → bit m e ≡ 1 → In (i + e) (bits_from k i m)
unfolding bits_from
set-in zero i m e h b = absurd (omega arith)
set-in (suc k) i m zero h b = let o : m % 2 ≡ 1 = omega arith in rw o (inl (add-zero i))
set-in (suc k) i m (suc e) h b =
    rw (add-suc i e, ← suc-add i e) (in-more (m % 2) i (suc i + e) _
    (set-in k (suc i) (m / 2) e (omega arith) (sym (bit-suc m e) ∙ b)))

in-set : (k i m x : ℕ) → In x (bits_from k i m) → (e : ℕ) × (e < k) × (x ≡ i + e) × (bit m e ≡ 1)
unfolding bits_from
in-set zero i m x p = absurd p
in-set (suc k) i m x p = go (m % 2) refl p (λ q. in-set k (suc i) (m / 2) x q)
  where
    go : (d : ℕ) → m % 2 ≡ d → In x (cons_if d i (bits_from k (suc i) (m / 2)))
        → (In x (bits_from k (suc i) (m / 2)) → (e : ℕ) × (e < k) × (x ≡ suc i + e) × (bit (m / 2) e ≡ 1))
        → (e : ℕ) × (e < suc k) × (x ≡ i + e) × (bit m e ≡ 1)
    go zero z p ih = let r = ih p in (suc r.0, omega (arith, r.1), omega (arith, r.2), bit-suc m r.0 ∙ r.3)
    go (suc d) z (inl q) ih = (zero, omega arith, omega arith, omega (arith, mod-lt m (pow_pos 1)))
    go (suc d) z (inr q) ih = let r = ih q in (
      suc r.0,
      omega (arith, r.1),
      omega (arith, r.2),
      bit-suc m r.0
          ∙ r.3,
    )

later : (i : ℕ) (l : List ℕ) → Rising (suc i) l → Rising i l
later i [] r = tt
later i (a ∷ l) r = (omega (arith, r.0), r.1)

rises : (k i m : ℕ) → Rising i (bits_from k i m)
unfolding bits_from
rises zero i m = tt
rises (suc k) i m = go (m % 2) (rises k (suc i) (m / 2))
  where
    go : (d : ℕ) → Rising (suc i) (bits_from k (suc i) (m / 2)) → Rising i (cons_if d i (bits_from k (suc i) (m / 2)))
    go zero r = later i (bits_from k (suc i) (m / 2)) r
    go (suc d) r = (omega arith, r)

-- a set bit is walked
pub walks-set : (m e : ℕ) → e < 16 → bit_is_set m e ≡ true → In e (set_bits m)
walks-set m e h b = rw (zero-add e) at (set-in 16 0 m e h (set-one m e b))

-- what is walked is a set bit
pub walked-set : (m e : ℕ) → In e (set_bits m) → (e < 16) × (bit_is_set m e ≡ true)
walked-set m e p = let r = in-set 16 0 m e p in let q : e ≡ r.0 = r.2
    ∙ zero-add r.0 in rw q (r.1, one_set m r.0 r.3)

-- in rising order
pub walk-rises : (m : ℕ) → Rising 0 (set_bits m)
walk-rises m = rises 16 0 m

-- ---- the walk, a step at a time

cons_if-le : (d i k : ℕ) (l : List ℕ) → length l ≤ k → length (cons_if d i l) ≤ suc k
cons_if-le zero i k l h = omega arith
cons_if-le (suc d) i k l h = omega arith

bits-le : (k i m : ℕ) → length (bits_from k i m) ≤ k
unfolding bits_from
bits-le zero i m = omega arith
bits-le (suc k) i m = cons_if-le (m % 2) i k (bits_from k (suc i) (m / 2)) (bits-le k (suc i) (m / 2))

bits_none : (k i : ℕ) → bits_from k i 0 ≡ []
unfolding bits_from
bits_none zero i = refl
bits_none (suc k) i = bits_none k (suc i)

parity : (n : ℕ) → (n % 2 ≡ 0) ⊎ (n % 2 ≡ 1)
parity n = go (n % 2) (mod-lt n (pow_pos 1))
  where
    go : (b : ℕ) → b < 2 → (b ≡ 0) ⊎ (b ≡ 1)
    go zero h = inl refl
    go (suc zero) h = inr refl
    go (suc (suc b)) h = absurd (omega arith)

-- what `m & (m - 1)` is above its lowest bit, which is 0
even-rest : (m : ℕ) → 0 < m → m % 2 ≡ 0 → (bit_and m (m - 1) % 2 ≡ 0)
    × (bit_and m (m - 1) / 2 ≡ bit_and (m / 2) (m / 2 - 1))
even-rest m p z =
    let q : (m - 1) / 2 ≡ m / 2 - 1 = omega arith in
    let r : (m - 1) % 2 ≡ 1 = omega arith in
    let a = rw (q, z, r) at (and_step m (m - 1)) in
    (omega arith, omega arith)

odd-rest : (m : ℕ) → m % 2 ≡ 1 → (bit_and m (m - 1) % 2 ≡ 0) × (bit_and m (m - 1) / 2 ≡ m / 2)
odd-rest m o =
    let q : (m - 1) / 2 ≡ m / 2 = omega arith in
    let r : (m - 1) % 2 ≡ 0 = omega arith in
    let a = rw (q, o, r) at (and_step m (m - 1)) in
    let s = and_self (m / 2) in
    (omega arith, omega arith)

-- `m & (m - 1)` is m with its lowest set bit cleared
and-rest : (k m : ℕ) → 0 < m → m < 2 ^ k → bit_and m (m - 1) ≡ with_bit m (count_trailing_zeros k m) false
unfolding count_trailing_zeros with_bit
and-rest zero m p h = absurd (omega arith)
and-rest (suc k) m p h =
    let e = pow-suc 2 k in
    ⊎_elim
    (λ (z : m % 2 ≡ 0).
    let c = even-rest m p z in
    let i = and-rest k (m / 2) (omega arith) (omega arith) in
    let s = with-suc m (count_trailing_zeros k (m / 2)) false in
    rw z (omega arith))
    (λ (o : m % 2 ≡ 1). let c = odd-rest m o in rw o (omega arith))
    (parity m)

bits-step : (k i m : ℕ) → 0 < m → m < 2 ^ k → bits_from k i m ≡ (i + count_trailing_zeros k m) ∷ bits_from k i (bit_and m (m - 1))
unfolding bits_from count_trailing_zeros
bits-step zero i m p h = absurd (omega arith)
bits-step (suc k) i m p h =
    let e = pow-suc 2 k in
    ⊎_elim
    (λ (z : m % 2 ≡ 0).
    let c = even-rest m p z in
    rw (z, c.0, c.1) (bits-step k (suc i) (m / 2) (omega arith) (omega arith)
    ∙ ap (λ (x : ℕ). x ∷ bits_from k (suc i) (bit_and (m / 2) (m / 2 - 1))) (suc-add i (count_trailing_zeros k (m / 2))
    ∙ sym (add-suc i (count_trailing_zeros k (m / 2))))))
    (λ (o : m % 2 ≡ 1).
    let c = odd-rest m o in
    rw (o, c.0, c.1) (ap (λ (x : ℕ). x ∷ bits_from k (suc i) (m / 2)) (sym (add-zero i))))
    (parity m)

-- `m & (m - 1)` is the rest of the mask
pub rest-and : (m : ℕ) → 0 < m → m < 2 ^ 16 → bit_and m (m - 1) ≡ rest m
rest-and m p h = and-rest 16 m p h

pub rest-none : rest 0 ≡ 0
unfolding with_bit count_trailing_zeros
rest-none = refl

-- `m & m.wrapping_sub(1)`, of an empty mask too
pub rest-code : (m n : ℕ) → m < 2 ^ 16 → n < 2 ^ 16 → (n + 1) % 2 ^ 16 ≡ m → bit_and m n ≡ rest m
rest-code m n h l e =
    ⊎_elim
    (λ (z : m ≡ 0). rw z (and_zero_l n ∙ sym rest-none))
    (λ (p : 0 < m). let q : n ≡ m - 1 = omega arith in rw q (rest-and m p h))
    (eq-zero-or-pos m)

pub walk_none : set_bits 0 ≡ []
walk_none = bits_none 16 0

-- the rest is less, so the walk ends
pub rest_lt : (m : ℕ) → 0 < m → m < 2 ^ 16 → rest m < m
rest_lt m p h = rw (← rest-and m p h) (omega (arith, and_le_r m (m - 1)))

-- the walk goes to the lowest, then over the rest
pub walk_step : (m : ℕ) → 0 < m → m < 2 ^ 16 → set_bits m ≡ lowest m ∷ set_bits (rest m)
walk_step m p h =
    bits-step 16 0 m p h ∙ ap (λ (x : ℕ). x ∷ bits_from 16 0 (bit_and m (m - 1))) (zero-add (lowest m))
    ∙ ap (λ (x : ℕ). lowest m ∷ bits_from 16 0 x) (rest-and m p h)

-- at most 16 endpoints
pub walk-length : (m : ℕ) → length (set_bits m) ≤ 16
walk-length m = bits-le 16 0 m

-- ---- what a loop over the walk computes

pub each_none : {S : Type 0} (f : S → ℕ → S) (s : S) → each f s (set_bits 0) ≡ s
unfolding each
each_none f s = ap (each f s) walk_none

pub each_step : {S : Type 0} (f : S → ℕ → S) (s : S) (m : ℕ) → 0 < m → m < 2 ^ 16 → each f s (set_bits m)
    ≡ each f (f s (lowest m)) (set_bits (rest m))
unfolding each
each_step f s m p h = ap (each f s) (walk_step m p h)
