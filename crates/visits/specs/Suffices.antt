-- With at most 15 arrivals in every span no arrival after the first visit is turned away. Assumes nothing.
use Rattle.std.specs.Prelude.{◌≡◌, Bool, true, false, cond, leb}
use Rattle.std.proofs.Math.Path.{refl}
use Rattle.std.proofs.Common.{sym, ◌∙◌, add-zero, add-suc, leb-true, leb-false}
use Prim.Native.Nat.{ℕ, zero, suc, ◌+◌, ◌-◌, ◌≤◌, ◌<◌}
use Rattle.std.proofs.Math.Decide.{dec_lt}
use native.Mathlib.Omega.{arith}
use Rattle.state.specs.declared.EpState.{EpState}
use Rattle.ring.specs.Slot.{count_of}
use Rattle.visits.specs.Bounds.{rounded_up}
use Rattle.visits.specs.BoundsLaws.{below}
use Rattle.visits.specs.Times.{Spaced, arrivals_in}
use Rattle.visits.specs.SpacedLaws.{apart_by, not-before}
use Rattle.visits.specs.SpanLaws.{counted}
use Rattle.visits.specs.Emptied.{Sixteen, Moment, arrives, visited, next, after, NoOverrun}
use Rattle.visits.specs.EmptiedLaws.{arrive-sixteen, admit-count, admit-overruns, empty-sixteen, empty-overruns}
use Rattle.visits.specs.EmptiedLaws.{empty-count}

module _ (visit arrival : ℕ → ℕ) where
  next-by : (m : Moment) → Sixteen m.ring → (t : Bool)
      → Sixteen (cond t (arrives visit arrival m) (visited visit arrival m)).ring
  next-by m g true = arrive-sixteen g
  next-by m g false = empty-sixteen g

  pub after-sixteen : {s : EpState} → Sixteen s → (n : ℕ) → Sixteen (after visit arrival s n).ring
  unfolding after next
  after-sixteen g zero = g
  after-sixteen {s} g (suc n) =
      let m = after visit arrival s n in
      next-by m (after-sixteen g n) (leb (arrival m.arrivals) (visit m.visits))

-- those that were are not after the next visit
abbrev Came : (visit arrival : ℕ → ℕ) → Moment → Type 0
Came visit arrival m = (i : ℕ) → i < m.arrivals → arrival i ≤ visit m.visits

-- after a visit: those that wait are all arrivals from the first one after the last visit on
record Since (visit arrival : ℕ → ℕ) (m : Moment) : Type 0 where
  last : ℕ
  visits : m.visits ≡ suc last
  first : ℕ
  earlier : (i : ℕ) → i < first → arrival i ≤ visit last
  later : visit last < arrival first
  waits : m.arrivals ≡ first + count_of m.ring

module _ {a b c d : ℕ} (one : 1 ≤ c) (most : rounded_up b c ≤ 15) {visit arrival : ℕ → ℕ} (v : Spaced a b visit)
    (w : Spaced c d arrival) where
  few : (m : Moment) → Since visit arrival m → arrival m.arrivals ≤ visit m.visits → count_of m.ring < 15
  few m r h =
      let x = rw (sym r.waits) at (apart_by w r.first (count_of m.ring)) in
      let y = rw r.visits at h in
      omega (arith, most, below b c (count_of m.ring) one (omega (arith, x, y, r.later, v.near r.last)))

  apart_from : (i k : ℕ) → i ≤ k → arrival i ≤ arrival k
  apart_from i k h =
      let e : i + (k - i) ≡ k = omega arith in
      omega (arith, rw e at (apart_by w i (k - i)))

  came-by : (m : Moment) (t : Bool) → leb (arrival m.arrivals) (visit m.visits) ≡ t → Came visit arrival m
      → Came visit arrival (cond t (arrives visit arrival m) (visited visit arrival m))
  came-by m true e o i h = elim (dec_lt i m.arrivals) [
    | yes l ↦ o i l
    | no l ↦ (let f : i ≡ m.arrivals = omega arith in rw f (leb-true _ _ e))
  ]
  came-by m false e o i h = omega (arith, o i h, v.apart m.visits)

  -- the next event
  step_by : (m : Moment) → Sixteen m.ring → (t : Bool) → leb (arrival m.arrivals) (visit m.visits) ≡ t
      → 1 ≤ (cond t (arrives visit arrival m) (visited visit arrival m)).visits
      → Came visit arrival m
      → (1 ≤ m.visits → Since visit arrival m)
      → Since visit arrival (cond t (arrives visit arrival m) (visited visit arrival m))
  step_by m g true e h o i =
      let r = i h in
      record {
        last = r.last;
        visits = r.visits;
        first = r.first;
        earlier = r.earlier;
        later = r.later;
        waits = omega (arith, r.waits, admit-count g (few m r (leb-true _ _ e)));
      }
  step_by m g false e h o i = record {
    last = m.visits;
    visits = refl;
    first = m.arrivals;
    earlier = o;
    later = leb-false _ _ e;
    waits = omega (arith, empty-count g);
  }

  keeps_by : (m : Moment) → Sixteen m.ring → (t : Bool) → leb (arrival m.arrivals) (visit m.visits) ≡ t
      → Since visit arrival m
      → (cond t (arrives visit arrival m) (visited visit arrival m)).ring.overruns ≡ m.ring.overruns
  keeps_by m g true e r = admit-overruns g (few m r (leb-true _ _ e))
  keeps_by m g false e r = empty-overruns g

  module _ (s : EpState) (g : Sixteen s) where
    abbrev run : ℕ → Moment
    run = after visit arrival s

    came : (n : ℕ) → Came visit arrival (run n)
    unfolding after next
    came zero i h = absurd (omega arith)
    came (suc n) i h = came-by (run n) (leb (arrival (run n).arrivals) (visit (run n).visits)) refl (came n) i h

    since : (n : ℕ) → 1 ≤ (run n).visits → Since visit arrival (run n)
    unfolding after next
    since zero h = absurd (omega arith)
    since (suc n) h = step_by (run n) (after-sixteen visit arrival g n)
        (leb (arrival (run n).arrivals) (visit (run n).visits)) refl h (came n) (since n)

    more_by : (m : Moment) (t : Bool) → m.visits ≤ (cond t (arrives visit arrival m) (visited visit arrival m)).visits
    more_by m true = omega arith
    more_by m false = omega arith

    more : (n k : ℕ) → (run n).visits ≤ (run (n + k)).visits
    unfolding after next
    more n zero = rw (add-zero n) (omega arith)
    more n (suc k) = rw (add-suc n k)
        (omega (
          arith,
          more n k,
          more_by (run (n + k))
              (leb (arrival (run (n + k)).arrivals) (visit (run (n + k)).visits)),
        ))

    keeps : (n : ℕ) → 1 ≤ (run n).visits → (run (suc n)).ring.overruns ≡ (run n).ring.overruns
    unfolding after next
    keeps n h = keeps_by (run n) (after-sixteen visit arrival g n)
        (leb (arrival (run n).arrivals) (visit (run n).visits)) refl (since n h)

    pub no_overrun : NoOverrun visit arrival s
    no_overrun n zero h = rw (add-zero n) refl
    no_overrun n (suc k) h = rw (add-suc n k) (keeps (n + k) (omega (arith, more n k)) ∙ no_overrun n k h)

    -- at each visit after the first as many wait as arrived in the span that ends with it
    module _ (n j : ℕ) (second : (run n).visits ≡ suc j) (due : visit (suc j) < arrival (run n).arrivals) where
      r : Since visit arrival (run n)
      r = since n (omega arith)

      is_last : r.last ≡ j
      unfolding r
      is_last = omega (arith, (since n (omega arith)).visits)

      inside : (i : ℕ) → i < (run n).arrivals → arrival i ≤ visit (suc j)
      inside i h = rw second at (came n i h)

      all_in : (k : ℕ) → k ≡ (run n).arrivals → k ≤ suc (visit (suc j))
      all_in zero e = omega arith
      all_in (suc k) e = omega (arith, inside k (omega arith), not-before w one k)

      pub waits_arrivals : count_of (run n).ring ≡ arrivals_in arrival (visit j) (visit (suc j))
      unfolding arrivals_in r
      waits_arrivals =
          let e = counted arrival (visit j) (visit (suc j)) r.first (count_of (run n).ring)
          (λ i h. rw is_last at (r.earlier i h))
          (λ i h l. (
            omega (arith, rw is_last at r.later, apart_from r.first i h),
            inside i (omega (arith, r.waits)),
          ))
          (λ i h. omega (arith, apart_from (run n).arrivals i (omega (arith, r.waits))))
          (suc (visit (suc j))) in
          omega (arith, e, all_in (run n).arrivals refl, r.waits)
