-- An isochronous OUT ring of 16 slots at arrivals and visits, by the ring's own rules (`ring/specs/Out.antt`). Assumes
-- nothing.
use Rattle.std.specs.Prelude.{◌≡◌, cond, ℕ, zero, suc, ◌+◌, ◌≤◌, ◌<◌, leb}
use Rattle.state.specs.declared.EpState.{EpState}
use Rattle.ring.specs.Slot.{count_of}
use Rattle.ring.specs.Out.{arrived_of, closed_of}

-- an endpoint's record with a ring of 16 slots, whatever waits in it; head and tail are 8-bit
pub record Sixteen (s : EpState) : Type 0 where
  pub slots : s.slots ≡ 16
  pub head8 : s.head < 256
  pub tail8 : s.tail < 256

unfoldable pub closes : ℕ → EpState → EpState
closes zero s = s
closes (suc n) s = closes n (closed_of s)

-- a visit: all that wait are read, the oldest first
unfoldable pub emptied : EpState → EpState
emptied s = closes (count_of s) s

-- how far a run has come: so many arrivals and visits were, and the ring as they left it
pub record Moment : Type 0 where
  pub arrivals : ℕ
  pub visits : ℕ
  pub ring : EpState

-- `visit` and `arrival` are the times
module _ (visit arrival : ℕ → ℕ) where
  abbrev pub arrives : Moment → Moment
  arrives m = record { arrivals = suc m.arrivals; visits = m.visits; ring = arrived_of m.ring }

  abbrev pub visited : Moment → Moment
  visited m = record { arrivals = m.arrivals; visits = suc m.visits; ring = emptied m.ring }

  -- the next arrival or the next visit, whichever comes first; on the same microframe the arrival is before the visit
  unfoldable pub next : Moment → Moment
  next m = cond (leb (arrival m.arrivals) (visit m.visits)) (arrives m) (visited m)

  -- after so many arrivals and visits together
  unfoldable pub after : EpState → ℕ → Moment
  after s zero = record { arrivals = 0; visits = 0; ring = s }
  after s (suc n) = next (after s n)

-- the count of those turned away stays as it was at any time after the first visit
abbrev pub NoOverrun : (visit arrival : ℕ → ℕ) → EpState → Type 0
NoOverrun visit arrival s = (n k : ℕ) → 1 ≤ (after visit arrival s n).visits
    → (after visit arrival s (n + k)).ring.overruns ≡ (after visit arrival s n).ring.overruns
