-- With more than 15 arrivals in some span there are times at which one is turned away: those that reach the greatest
-- number. Assumes nothing.
use Rattle.std.specs.Prelude.{◌≢◌, ◌≡◌}
use Rattle.std.proofs.Math.Path.{refl, ap}
use Rattle.std.proofs.Common.{◌∙◌, arith, le-leb}
use Prim.Native.Nat.{ℕ, zero, suc, ◌+◌, ◌≤◌, ◌<◌}
use Rattle.std.proofs.lemmas.Bool.{lt-leb}
use Rattle.state.specs.declared.EpState.{EpState}
use Rattle.ring.specs.Slot.{count_of}
use Rattle.visits.specs.Bounds.{rounded_up}
use Rattle.visits.specs.BoundsLaws.{within}
use Rattle.visits.specs.Times.{steady}
use Rattle.visits.specs.Emptied.{Sixteen, Moment, arrives, visited, next, after}
use Rattle.visits.specs.EmptiedLaws.{admit-count, turn-overruns, empty-count}
use Rattle.visits.specs.Suffices.{after-sixteen}

module _ (visit arrival : ℕ → ℕ) (m : Moment) where
  next-arrives : arrival m.arrivals ≤ visit m.visits → next visit arrival m ≡ arrives visit arrival m
  unfolding next
  next-arrives h = rw (le-leb _ _ h) refl

  next-visits : visit m.visits < arrival m.arrivals → next visit arrival m ≡ visited visit arrival m
  unfolding next
  next-visits h = rw (lt-leb _ _ h) refl

-- `k` arrivals after the first visit
record Filled (k : ℕ) (m : Moment) : Type 0 where
  arrivals : m.arrivals ≡ k
  visits : m.visits ≡ 1
  count : count_of m.ring ≡ k

module _ (b c : ℕ) (one : 1 ≤ c) (many : 15 < rounded_up b c) (s : EpState) (g : Sixteen s) where
  abbrev run : ℕ → Moment
  run = after (steady 0 b) (steady (0 + 1) c) s

  soon : (k : ℕ) → k ≤ 15 → (m : Moment) → Filled k m → steady (0 + 1) c m.arrivals ≤ steady 0 b m.visits
  soon k h m f = rw (f.arrivals, f.visits) (omega (arith, within b c k one (omega arith)))

  start : Filled 0 (run 1)
  unfolding after
  start = rw (next-visits (steady 0 b) (steady (0 + 1) c) (after (steady 0 b) (steady (0 + 1) c) s 0) (omega arith))
      (record { arrivals = refl; visits = refl; count = empty-count g })

  fill : (k : ℕ) → k ≤ 15 → Filled k (run (suc k))
  unfolding after
  fill zero h = start
  fill (suc k) h =
      let f = fill k (omega arith) in
      rw (next-arrives (steady 0 b) (steady (0 + 1) c) (run (suc k)) (soon k (omega arith) (run (suc k)) f))
      (record {
        arrivals = ap suc f.arrivals;
        visits = f.visits;
        count = admit-count (after-sixteen (steady 0 b) (steady (0 + 1) c) g (suc k)) (omega (arith, f.count))
            ∙ ap suc f.count;
      })

  pub first-visited : 1 ≤ (run 16).visits
  first-visited = omega (arith, (fill 15 (omega arith)).visits)

  -- the sixteenth
  pub sixteenth : (run 17).ring.overruns ≢ (run 16).ring.overruns
  unfolding after
  sixteenth =
      let f = fill 15 (omega arith) in
      rw (next-arrives (steady 0 b) (steady (0 + 1) c) (run 16) (soon 15 (omega arith) (run 16) f))
      (turn-overruns (after-sixteen (steady 0 b) (steady (0 + 1) c) g 16) (omega (arith, f.count)))
