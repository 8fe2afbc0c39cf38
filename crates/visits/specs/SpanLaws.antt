-- Counting the arrivals in a span. Assumes nothing.
use Rattle.std.specs.Prelude.{◌≡◌, Bool, true, false, ◌&&◌, ltb, leb}
use Rattle.std.proofs.Math.Path.{refl}
use Rattle.std.proofs.Common.{◌∙◌, ltb-true, leb-true, lt-ltb, le-ltb, le-leb}
use Prim.Native.Nat.{ℕ, zero, suc, ◌+◌, ◌-◌, ◌≤◌, ◌<◌, min}
use Rattle.std.proofs.Math.Decide.{dec_lt}
use native.Mathlib.Omega.{arith}
use Rattle.std.proofs.lemmas.Bool.{lt-leb}
use Rattle.visits.specs.Times.{Spaced, in_span, among_first, arrivals_in}
use Rattle.visits.specs.SpacedLaws.{not-before}

-- ---- is it in the span?

both_left : (x y : Bool) → (x && y) ≡ true → x ≡ true
both_left true y e = refl
both_left false y e = e

both_right : (x y : Bool) → (x && y) ≡ true → y ≡ true
both_right true y e = e
both_right false true e = refl
both_right false false e = e

module _ (first second t : ℕ) where
  pub span-after : in_span first second t ≡ true → first < t
  span-after e = ltb-true first t (both_left (ltb first t) (leb t second) e)

  pub span-upto : in_span first second t ≡ true → t ≤ second
  span-upto e = leb-true t second (both_right (ltb first t) (leb t second) e)

  pub span-has : first < t → t ≤ second → in_span first second t ≡ true
  span-has h k = simp (lt-ltb first t h, le-leb t second k)

  pub span-not-yet : t ≤ first → in_span first second t ≡ false
  span-not-yet h = simp (le-ltb first t h)

  pub span-no-more : second < t → in_span first second t ≡ false
  span-no-more h = go (ltb first t)
    where
      go : (x : Bool) → (x && leb t second) ≡ false
      go true = lt-leb t second h
      go false = refl

module _ (arrival : ℕ → ℕ) (first second : ℕ) where
  pub one_more : (n : ℕ) → in_span first second (arrival n) ≡ true → among_first arrival first second (suc n)
      ≡ suc (among_first arrival first second n)
  unfolding among_first
  one_more n e = rw e refl

  pub no_more : (n : ℕ) → in_span first second (arrival n) ≡ false → among_first arrival first second (suc n)
      ≡ among_first arrival first second n
  unfolding among_first
  no_more n e = rw e refl

  -- `k` of them before the span, then `q` in it, then those after it
  pub counted : (k q : ℕ)
      → ((i : ℕ) → i < k → arrival i ≤ first)
      → ((i : ℕ) → k ≤ i → i < k + q → (first < arrival i) × (arrival i ≤ second))
      → ((i : ℕ) → k + q ≤ i → second < arrival i)
      → (n : ℕ) → among_first arrival first second n ≡ min (n - k) q
  unfolding among_first
  counted k q before within beyond zero = omega arith
  counted k q before within beyond (suc n) = elim (dec_lt n k) [
    | yes h ↦ omega (
      arith,
      no_more n (span-not-yet first second (arrival n) (before n h)),
      counted k q before within
          beyond n,
    )
    | no h ↦ (elim (dec_lt n (k + q)) [
      | yes l ↦ (let w = within n (omega arith) l in
          omega (
            arith,
            one_more n (span-has first second (arrival n) w.0 w.1),
            counted k q before within beyond
                n,
          ))
      | no l ↦ omega (
        arith,
        no_more n (span-no-more first second (arrival n) (beyond n (omega arith))),
        counted k q
            before within beyond n,
      )
    ])
  ]

  -- no arrival of the span is left out
  pub all-counted : {c d : ℕ} → Spaced c d arrival → 1 ≤ c → (n : ℕ) → second < n → among_first arrival first second n
      ≡ arrivals_in arrival first second
  unfolding arrivals_in
  all-counted s h zero l = absurd (omega arith)
  all-counted s h (suc n) l = elim (dec_lt second n) [
    | yes m ↦ no_more n (span-no-more first second (arrival n) (omega (arith, not-before s h n))) ∙ all-counted s h n m
    | no m ↦ (let e : n ≡ second = omega arith in rw e refl)
  ]
