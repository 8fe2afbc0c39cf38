-- How far times are apart. Assumes nothing.
use Rattle.std.specs.Prelude.{ℕ, zero, suc, ◌+◌, ◌-◌, ◌*◌, ◌/◌, ◌≤◌}
use Rattle.std.proofs.Common.{add-zero, add-suc, suc-mul, div-mul-le_self, arith}
use Rattle.std.proofs.Math.Nat.{lt-div-mul-add}
use Rattle.visits.specs.Times.{Spaced, Followed, steady}

module _ {least greatest : ℕ} {times : ℕ → ℕ} (s : Spaced least greatest times) where
  pub apart_by : (i k : ℕ) → times i + k * least ≤ times (i + k)
  apart_by i zero = rw (add-zero i) (omega arith)
  apart_by i (suc k) = rw (add-suc i k) (omega (arith, apart_by i k, s.apart (i + k), suc-mul k least))

  pub near_by : (i k : ℕ) → times (i + k) ≤ times i + k * greatest
  near_by i zero = rw (add-zero i) (omega arith)
  near_by i (suc k) = rw (add-suc i k) (omega (arith, near_by i k, s.near (i + k), suc-mul k greatest))

  -- time i is not before microframe i
  pub not-before : 1 ≤ least → (i : ℕ) → i ≤ times i
  not-before h zero = omega arith
  not-before h (suc i) = omega (arith, not-before h i, s.apart i)

-- ---- steady times

pub steady-spaced : (least greatest first distance : ℕ) → least ≤ distance → distance ≤ greatest
    → Spaced least greatest (steady first distance)
steady-spaced least greatest first distance h k = record {
  apart = λ i. omega (arith, suc-mul i distance);
  near = λ i. omega (arith, suc-mul i distance);
}

-- from the first visit on one of them falls into any `distance` microframes
pub steady-followed : (v first distance d : ℕ) → 1 ≤ first → first ≤ distance → distance ≤ d
    → (visit : ℕ → ℕ) → ((j : ℕ) → v ≤ visit j) → Followed d visit (steady (v + first) distance)
steady-followed v first distance d h k l visit from j =
    let n = visit j - v + (distance - first) in (
      n / distance,
      omega (arith, from j, lt-div-mul-add {a = n} {b = distance} (omega arith)),
      omega (arith, from j, div-mul-le_self n distance),
    )
