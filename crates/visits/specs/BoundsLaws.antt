-- No permitted times pass the bounds. Assumes nothing.
use Rattle.std.specs.Prelude.{◌≡◌, Bool, true, false}
use Rattle.std.proofs.Math.Path.{refl}
use Prim.Native.Nat.{ℕ, zero, suc, ◌+◌, ◌-◌, ◌*◌, ◌/◌, ◌≤◌, ◌<◌}
use Rattle.std.proofs.Common.{add-zero, add-suc, suc-mul, le-div_iff_mul-le, div-mul-le_self, mul-le-mul_right}
use Rattle.std.proofs.Math.Nat.{lt-div-mul-add}
use Rattle.std.proofs.Math.Decide.{dec_lt}
use native.Mathlib.Omega.{arith}
use Rattle.visits.specs.Bounds.{rounded_up, least_of, greatest_of}
use Rattle.visits.specs.Limits.{Limits}
use Rattle.visits.specs.Times.{Spaced, Permitted, in_span, among_first, arrivals_in}
use Rattle.visits.specs.SpacedLaws.{apart_by, near_by, not-before}
use Rattle.visits.specs.SpanLaws.{span-after, span-upto, span-has, one_more, no_more}

-- ---- rounding up: the least q with n ≤ q × m

pub above : (n m : ℕ) → 1 ≤ m → n ≤ rounded_up n m * m
unfolding rounded_up
above n m h = omega (arith, lt-div-mul-add {a = n + (m - 1)} {b = m} h)

pub below : (n m q : ℕ) → 1 ≤ m → q * m < n → q < rounded_up n m
unfolding rounded_up
below n m q h l = (le-div_iff_mul-le h).1 (omega (arith, suc-mul q m))

pub within : (n m q : ℕ) → 1 ≤ m → q < rounded_up n m → q * m < n
unfolding rounded_up
within n m q h l = omega (arith, suc-mul q m, (le-div_iff_mul-le h).0 l)

-- ---- at most

module _ (b c d : ℕ) (one : 1 ≤ c) (arrival : ℕ → ℕ) (s : Spaced c d arrival) (first second : ℕ) (long : second ≤ first
    + b) where
  -- of the first n arrivals those in the span come from one on that is after the first visit
  record Run (n : ℕ) : Type 0 where
    from : ℕ
    few : among_first arrival first second n + from ≤ n
    later : from < n → first < arrival from
    most : among_first arrival first second n ≤ rounded_up b c

  later_still : (n : ℕ) (r : Run n) → first < arrival n → first < arrival r.from
  later_still n r h = elim (dec_lt r.from n) [
    | yes l ↦ r.later l
    | no l ↦ (let e : r.from ≡ n = omega (arith, r.few) in rw e h)
  ]

  fits : (n : ℕ) (r : Run n) → first < arrival n → arrival n ≤ second → among_first arrival first second n
      < rounded_up b c
  fits n r h k =
      let q = among_first arrival first second n in
      let e : r.from + (n - r.from) ≡ n = omega (arith, r.few) in
      let a = rw e at (apart_by s r.from (n - r.from)) in
      below b c q one (omega (
        arith,
        later_still n r h,
        a,
        mul-le-mul_right {m = q} {n = n - r.from} c
            (omega (arith, r.few)),
      ))

  longer : (n : ℕ) → (r : Run n) → (t : Bool) → in_span first second (arrival n) ≡ t → Run (suc n)
  longer n r true e =
      let h = span-after first second (arrival n) e in
      let o = one_more arrival first second n e in
      record {
        from = r.from;
        few = omega (arith, o, r.few);
        later = λ l. later_still n r h;
        most = omega (arith, o, fits n r h (span-upto first second (arrival n) e));
      }
  longer n r false e = elim (dec_lt r.from n) [
    | yes l ↦ record {
      from = r.from;
      few = omega (arith, no_more arrival first second n e, r.few);
      later = λ _. r.later l;
      most = omega (arith, no_more arrival first second n e, r.most);
    }
    | no l ↦ record {
      from = suc n;
      few = omega (arith, no_more arrival first second n e, r.few);
      later = λ k. absurd (omega arith);
      most = omega (arith, no_more arrival first second n e, r.most);
    }
  ]

  runs : (n : ℕ) → Run n
  unfolding among_first
  runs zero = record { from = 0; few = omega arith; later = λ l. absurd (omega arith); most = omega arith }
  runs (suc n) = longer n (runs n) (in_span first second (arrival n)) refl

  pub at_most : arrivals_in arrival first second ≤ rounded_up b c
  unfolding arrivals_in
  at_most = (runs (suc second)).most

-- ---- at least

module _ (arrival : ℕ → ℕ) (first second : ℕ) where
  -- those from `i` on are counted
  counts-run : (i q : ℕ) → ((k : ℕ) → k < q → in_span first second (arrival (i + k)) ≡ true) → q
      ≤ among_first arrival first second (i + q)
  counts-run i zero h = omega arith
  counts-run i (suc q) h = rw (add-suc i q)
      (omega (
        arith,
        one_more arrival first second (i + q) (h q (omega arith)),
        counts-run i q
            (λ k l. h k (omega arith)),
      ))

  keeps_by : (n : ℕ) (t : Bool) → in_span first second (arrival n) ≡ t → among_first arrival first second n
      ≤ among_first arrival first second (suc n)
  keeps_by n true e = omega (arith, one_more arrival first second n e)
  keeps_by n false e = omega (arith, no_more arrival first second n e)

  keeps : (n k : ℕ) → among_first arrival first second n ≤ among_first arrival first second (n + k)
  keeps n zero = rw (add-zero n) (omega arith)
  keeps n (suc k) = rw (add-suc n k) (omega (
    arith,
    keeps n k,
    keeps_by (n + k) (in_span first second (arrival (n + k)))
        refl,
  ))

module _ (a c d : ℕ) (one : 1 ≤ c) (order : c ≤ d) (arrival : ℕ → ℕ) (s : Spaced c d arrival) (first second : ℕ)
    (long : first + a ≤ second)
    (i : ℕ) (later : first < arrival i) (soon : arrival i ≤ first + d) where
  comes : (k : ℕ) → k < a / d → in_span first second (arrival (i + k)) ≡ true
  comes k l = span-has first second (arrival (i + k))
      (omega (arith, apart_by s i k))
      (omega (arith, near_by s i k, suc-mul k d, mul-le-mul_right {m = suc k} {n = a / d} d l, div-mul-le_self a d))

  ends : (q : ℕ) → ((k : ℕ) → k < q → in_span first second (arrival (i + k)) ≡ true) → q
      ≤ arrivals_in arrival first second
  unfolding arrivals_in
  ends zero h = omega arith
  ends (suc q) h =
      let l = span-upto first second (arrival (i + q)) (h q (omega arith)) in
      let e : i + suc q + (second - (i + q)) ≡ suc second = omega (arith, not-before s one (i + q)) in
      let k = rw e at (keeps arrival first second (i + suc q) (second - (i + q))) in
      omega (arith, counts-run arrival first second i (suc q) h, k)

  pub at_least : a / d ≤ arrivals_in arrival first second
  at_least = ends (a / d) comes

-- ---- "no permitted times pass them"

module _ {a b c d : ℕ} (l : Limits a b c d) {visit arrival : ℕ → ℕ} (p : Permitted a b c d visit arrival) (j : ℕ) where
  pub no_fewer : (least_of a d).arrivals ≤ arrivals_in arrival (visit j) (visit (suc j))
  unfolding least_of
  no_fewer =
      let f = p.followed j in
      at_least a c d l.least_arrivals l.arrivals arrival p.arrivals (visit j) (visit (suc j))
      (p.visits.apart j) f.0 f.1 f.2

  pub no-more-than : arrivals_in arrival (visit j) (visit (suc j)) ≤ (greatest_of b c).arrivals
  unfolding greatest_of
  no-more-than = at_most b c d l.least_arrivals arrival p.arrivals (visit j) (visit (suc j)) (p.visits.near j)
