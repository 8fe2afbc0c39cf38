-- What row 23 leaves are limits, and it leaves all of them. Assumes nothing.
use Rattle.std.specs.Prelude.{◌↔◌, ◌≡◌, false, ℕ, ◌≤◌, ltb, eqb}
use Rattle.std.proofs.Common.{arith}
use Rattle.std.proofs.lemmas.Bool.{or_parts}
use borrow.Author.Tests.{ltb-false, eqb-false, le-ltb, ne_eqb}
use Rattle.visits.specs.Limits.{no_distance, no_limits, row23, Limits}

pub distance-from : (x : ℕ) → no_distance x ≡ false → 1 ≤ x
unfolding no_distance
distance-from x e = let z = eqb-false x 0 (or_parts (eqb x 0) (ltb 16383 x) e).0 in omega arith

pub distance-upto : (x : ℕ) → no_distance x ≡ false → x ≤ 16383
unfolding no_distance
distance-upto x e = ltb-false 16383 x (or_parts (eqb x 0) (ltb 16383 x) e).1

distance-fits : (x : ℕ) → 1 ≤ x → x ≤ 16383 → no_distance x ≡ false
unfolding no_distance
distance-fits x h k = simp (ne_eqb x 0 (λ e. omega arith), le-ltb 16383 x k)

module _ (least greatest : ℕ) (e : no_limits least greatest ≡ false) where
  pub limits-from : 1 ≤ least
  unfolding no_limits
  limits-from = distance-from least (or_parts (no_distance least) _ e).0

  pub limits-upto : greatest ≤ 16383
  unfolding no_limits
  limits-upto = distance-upto greatest (or_parts (no_distance greatest) _ (or_parts (no_distance least) _ e).1).0

  pub limits-order : least ≤ greatest
  unfolding no_limits
  limits-order = ltb-false greatest least (or_parts (no_distance greatest) _ (or_parts (no_distance least) _ e).1).1

limits-fit : (least greatest : ℕ) → 1 ≤ least → least ≤ greatest → greatest ≤ 16383 → no_limits least greatest ≡ false
unfolding no_limits
limits-fit least greatest h k l =
    simp (distance-fits least h (omega arith), distance-fits greatest (omega arith) l, le-ltb greatest least k)

pub accepted : (a b c d : ℕ) → (row23 a b c d ≡ false) ↔ Limits a b c d
unfolding row23
accepted a b c d = (
  λ e. (let p = or_parts (no_limits a b) (no_limits c d) e in
      record {
        least_visits = limits-from a b p.0;
        visits = limits-order a b p.0;
        greatest_visits = limits-upto a b p.0;
        least_arrivals = limits-from c d p.1;
        arrivals = limits-order c d p.1;
        greatest_arrivals = limits-upto c d p.1;
      }),
  λ l. simp (
    limits-fit a b l.least_visits l.visits l.greatest_visits,
    limits-fit c d l.least_arrivals
        l.arrivals l.greatest_arrivals,
  ),
)
