-- "The greatest is at most 15 exactly when a ring emptied at each visit has no overrun after the first visit, however
-- the times fall." Assumes nothing.
use Rattle.std.specs.Prelude.{◌≢◌, ◌↔◌, ℕ, suc, ◌+◌, ◌≤◌, ◌<◌}
use Rattle.std.proofs.Math.Decide.{dec_lt}
use native.Mathlib.Omega.{arith}
use Rattle.state.specs.declared.EpState.{EpState}
use Rattle.visits.specs.Limits.{Limits}
use Rattle.visits.specs.Bounds.{greatest_of}
use Rattle.visits.specs.Times.{Permitted, steady}
use Rattle.visits.specs.ReachesLaws.{greatest_reached}
use Rattle.visits.specs.Emptied.{Sixteen, after, NoOverrun}
use Rattle.visits.specs.Suffices.{no_overrun}
use Rattle.visits.specs.Overruns.{first-visited, sixteenth}

-- permitted times, and an event after the first visit at which the count of those turned away changes
pub record Overrun (a b c d : ℕ) (s : EpState) : Type 0 where
  pub visit : ℕ → ℕ
  pub arrival : ℕ → ℕ
  pub permitted : Permitted a b c d visit arrival
  pub event : ℕ
  pub later : 1 ≤ (after visit arrival s event).visits
  pub turned : (after visit arrival s (suc event)).ring.overruns ≢ (after visit arrival s event).ring.overruns

module _ {a b c d : ℕ} (l : Limits a b c d) {s : EpState} (g : Sixteen s) where
  pub suffices : (greatest_of b c).arrivals ≤ 15 → (visit arrival : ℕ → ℕ) → Permitted a b c d visit arrival
      → NoOverrun visit arrival s
  unfolding greatest_of
  suffices h visit arrival p = no_overrun l.least_arrivals h p.visits p.arrivals s g

  pub overruns : 15 < (greatest_of b c).arrivals → Overrun a b c d s
  unfolding greatest_of
  overruns h = record {
    visit = steady 0 b;
    arrival = steady (0 + 1) c;
    permitted = (greatest_reached l).permitted 0;
    event = 16;
    later = first-visited b c l.least_arrivals h s g;
    turned = sixteenth b c l.least_arrivals h s g;
  }

  pub fifteen : ((greatest_of b c).arrivals ≤ 15) ↔ ((visit arrival : ℕ → ℕ) → Permitted a b c d visit arrival
      → NoOverrun visit arrival s)
  unfolding overruns
  fifteen = (
    suffices,
    λ none. elim (dec_lt 15 (greatest_of b c).arrivals) [
      | yes h ↦ (let o = overruns h in absurd (o.turned
          (none o.visit o.arrival o.permitted o.event 1 o.later)))
      | no h ↦ omega arith
    ],
  )
