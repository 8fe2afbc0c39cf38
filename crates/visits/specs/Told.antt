-- What ToldLaws.antt speaks of. It proves: what the answer tells: request Thirteen's sentences in one theorem, `told`.
-- Assumes nothing.
use Rattle.std.specs.Prelude.{◌↔◌, ℕ, suc, ◌≤◌}
use Rattle.state.specs.declared.EpState.{EpState}
use Rattle.visits.specs.declared.Reached.{Reached}
use Rattle.visits.specs.Limits.{Limits}
use Rattle.visits.specs.Times.{Permitted, arrivals_in}
use Rattle.visits.specs.Reaches.{Reaches}
use Rattle.visits.specs.Emptied.{Sixteen, NoOverrun}

pub record Told (a b c d : ℕ) (least greatest : Reached) : Type 0 where
  pub limits : Limits a b c d
  pub no_fewer : (visit arrival : ℕ → ℕ) → Permitted a b c d visit arrival → (j : ℕ)
      → least.arrivals ≤ arrivals_in arrival (visit j) (visit (suc j))
  pub no_more : (visit arrival : ℕ → ℕ) → Permitted a b c d visit arrival → (j : ℕ)
      → arrivals_in arrival (visit j) (visit (suc j)) ≤ greatest.arrivals
  pub least_reached : Reaches a b c d a least
  pub greatest_reached : Reaches a b c d b greatest
  pub fifteen : {s : EpState} → Sixteen s
      → (greatest.arrivals ≤ 15) ↔ ((visit arrival : ℕ → ℕ) → Permitted a b c d visit arrival → NoOverrun visit arrival s)
