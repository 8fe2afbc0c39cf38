use Rattle.std.specs.Prelude.{◌≡◌, ◌||◌}
use Rattle.std.proofs.Math.Bool.{or_assoc}
use Rattle.visits.specs.Limits.{no_distance, no_limits}
use Rattle.visits.proofs.no_limits.Goals as goal
use Rattle.visits.proofs.no_limits.Goals.{Joined-no_distance, then-no_distance, else-no_distance}

-- the first two tests
two : (c : Joined-no_distance) → c.if-no_distance.value ≡ (no_distance c.args.least || no_distance c.args.greatest)
two c = elim c.if-no_distance.branch [
  | then-no_distance w ↦ simp (w.value-is, ← c.no_distance.ensures, w.if-no_distance.true)
  | else-no_distance w ↦
      simp (w.value-is, ← c.no_distance.ensures, w.if-no_distance.false, ← w.no_distance-else-no_distance.ensures)
]

pub returns-then-no_distance-2 : goal.returns-then-no_distance-2
unfolding no_limits
returns-then-no_distance-2 c =
    let t = two (goal.at.returns-then-no_distance-2 c).Joined-no_distance in
    simp (← or_assoc, ← t, c.if-no_distance-2.true)

pub returns-else-no_distance-2 : goal.returns-else-no_distance-2
unfolding no_limits
returns-else-no_distance-2 c =
    let t = two (goal.at.returns-else-no_distance-2 c).Joined-no_distance in
    simp (← or_assoc, ← t, c.if-no_distance-2.false)
