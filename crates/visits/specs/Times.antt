-- Times of a reader's visits and of arrivals, in microframes that run on: numbers that never go round. Assumes nothing.
use Rattle.std.specs.Prelude.{Bool, cond, ◌&&◌, ℕ, zero, suc, ◌+◌, ◌*◌, ◌≤◌, ◌<◌, ltb, leb}

-- one time after the other, each at least `least` and at most `greatest` after the one before
pub record Spaced (least greatest : ℕ) (times : ℕ → ℕ) : Type 0 where
  pub apart : (i : ℕ) → times i + least ≤ times (suc i)
  pub near : (i : ℕ) → times (suc i) ≤ times i + greatest

-- "The next arrival after a visit comes at most d after it, even where it is the first of all"
abbrev pub Followed : ℕ → (ℕ → ℕ) → (ℕ → ℕ) → Type 0
Followed d visit arrival = (j : ℕ) → (i : ℕ) × (visit j < arrival i) × (arrival i ≤ visit j + d)

-- visits and arrivals within the limits
pub record Permitted (a b c d : ℕ) (visit arrival : ℕ → ℕ) : Type 0 where
  pub visits : Spaced a b visit
  pub arrivals : Spaced c d arrival
  pub followed : Followed d visit arrival

-- "the arrival on the second visit's microframe counted and the one on the first's not"
abbrev pub in_span : ℕ → ℕ → ℕ → Bool
in_span first second t = ltb first t && leb t second

-- of the first `n` arrivals, those in the span
unfoldable pub among_first : (ℕ → ℕ) → ℕ → ℕ → ℕ → ℕ
among_first arrival first second zero = 0
among_first arrival first second (suc n) =
    cond (in_span first second (arrival n)) (suc (among_first arrival first second n)) (among_first arrival first second n)

-- how many arrivals a span has. Arrival n is not before microframe n, so that all in the span are among these
-- (`all-counted`)
unfoldable pub arrivals_in : (ℕ → ℕ) → ℕ → ℕ → ℕ
arrivals_in arrival first second = among_first arrival first second (suc second)

-- a first time, and a steady distance from each to the next
abbrev pub steady : ℕ → ℕ → ℕ → ℕ
steady first distance i = first + i * distance
