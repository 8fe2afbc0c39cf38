-- Laws on the definitions of Reaches.antt
use Rattle.std.specs.Prelude.{◌≡◌, ℕ, zero, suc, ◌+◌, ◌*◌, ◌/◌, ◌≤◌, ◌<◌}
use Rattle.std.proofs.Common.{suc-mul, le-div_iff_mul-le, mul-le-mul_right}
use Rattle.std.proofs.Math.Nat.{lt-div-mul-add}
use native.Mathlib.Omega.{arith}
use Rattle.visits.specs.Limits.{Limits}
use Rattle.visits.specs.Bounds.{rounded_up, least_of, greatest_of}
use Rattle.visits.specs.BoundsLaws.{above, within}
use Rattle.visits.specs.Times.{Permitted, arrivals_in, steady}
use Rattle.visits.specs.SpacedLaws.{not-before, steady-spaced, steady-followed}
use Rattle.visits.specs.SpanLaws.{counted}
use Rattle.visits.specs.Reaches.{Reaches}

-- ---- counting steady arrivals

module _ (v span first distance q : ℕ) (h : 1 ≤ first) (k : 1 ≤ distance)
    (inside : (i : ℕ) → i < q → first + i * distance ≤ span) (beyond : (i : ℕ) → q ≤ i → span < first + i
    * distance) where
  few : (n : ℕ) → ((i : ℕ) → i < n → first + i * distance ≤ span) → n ≤ suc (v + span)
  few zero f = omega arith
  few (suc n) f = omega (
    arith,
    f n (omega arith),
    not-before
        (steady-spaced distance distance first distance (omega arith) (omega arith)) k n,
  )

  steady-counted : arrivals_in (steady (v + first) distance) (steady v span 0) (steady v span 1) ≡ q
  unfolding arrivals_in
  steady-counted =
      let e = counted (steady (v + first) distance) (steady v span 0) (steady v span 1) 0 q
      (λ i l. absurd (omega arith))
      (λ i l m. (omega arith, omega (arith, inside i (omega arith))))
      (λ i l. omega (arith, beyond i (omega arith)))
      (suc (steady v span 1)) in
      omega (arith, e, few q inside)

steady-permitted : {a b c d : ℕ} (span first distance : ℕ) → a ≤ span → span ≤ b → c ≤ distance → distance ≤ d → 1
    ≤ first → first ≤ distance
    → (v : ℕ) → Permitted a b c d (steady v span) (steady (v + first) distance)
steady-permitted {a} {b} {c} {d} span first distance h k l m n o v = record {
  visits = steady-spaced a b v span h k;
  arrivals = steady-spaced c d (v + first) distance l m;
  followed = steady-followed v first distance d n o m (steady v span) (λ j. omega arith);
}

module _ {a b c d : ℕ} (l : Limits a b c d) where
  least-in : (i : ℕ) → i < a / d → d + i * d ≤ a
  least-in i h = omega (
    arith,
    suc-mul i d,
    (le-div_iff_mul-le {k = d} {x = suc i} {y = a}
        (omega (arith, l.least_arrivals, l.arrivals))).0 h,
  )

  least-out : (i : ℕ) → a / d ≤ i → a < d + i * d
  least-out i h =
      omega (
        arith,
        lt-div-mul-add {a = a} {b = d} (omega (arith, l.least_arrivals, l.arrivals)),
        mul-le-mul_right
            {m = a / d} {n = i} d h,
      )

  -- "d and d in a span of a"
  pub least_reached : Reaches a b c d a (least_of a d)
  unfolding least_of
  least_reached = record {
    permitted = steady-permitted a d d
        (omega arith) l.visits l.arrivals (omega arith) (omega (arith, l.least_arrivals, l.arrivals))
        (omega arith);
    reached = λ v. steady-counted v a d d (a / d)
        (omega (arith, l.least_arrivals, l.arrivals)) (omega (arith, l.least_arrivals, l.arrivals)) least-in
        least-out;
  }

  greatest-in : (i : ℕ) → i < rounded_up b c → 1 + i * c ≤ b
  greatest-in i h = omega (arith, within b c i l.least_arrivals h)

  greatest-out : (i : ℕ) → rounded_up b c ≤ i → b < 1 + i * c
  greatest-out i h = omega (arith, above b c l.least_arrivals, mul-le-mul_right {m = rounded_up b c} {n = i} c h)

  -- "1 and c in a span of b"
  pub greatest_reached : Reaches a b c d b (greatest_of b c)
  unfolding greatest_of
  greatest_reached = record {
    permitted = steady-permitted b 1 c
        l.visits (omega arith) (omega arith) l.arrivals (omega arith) l.least_arrivals;
    reached = λ v. steady-counted v b 1 c (rounded_up b c) (omega arith) l.least_arrivals greatest-in greatest-out;
  }
