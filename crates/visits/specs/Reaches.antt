-- What ReachesLaws.antt speaks of. It proves: the bounds are reached, by the first arrival and the distance that the
-- answer gives beside each. Assumes nothing.
use Rattle.std.specs.Prelude.{◌≡◌, ℕ, ◌+◌}
use Rattle.visits.specs.declared.Reached.{Reached}
use Rattle.visits.specs.Times.{Permitted, arrivals_in, steady}

-- visits from any microframe `v` on, every `span`, and arrivals as the answer says are permitted, and between the first
-- two visits as many arrive
pub record Reaches (a b c d : ℕ) (span : ℕ) (r : Reached) : Type 0 where
  pub permitted : (v : ℕ) → Permitted a b c d (steady v span) (steady (v + r.first) r.distance)
  pub reached : (v : ℕ) → arrivals_in (steady (v + r.first) r.distance) (steady v span 0) (steady v span 1)
      ≡ r.arrivals
