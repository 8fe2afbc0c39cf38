use Prim.Native.Nat.{◌-◌, ◌≤◌}
use mathlib.Core.Path.{◌≡◌}
use Rattle.state.specs.State.{view}
use Rattle.driver.specs.Announce.{found_at}
use Rattle.driver.proofs.announce.found_at.Given as goal

abbrev pub invariant-loop-e : goal.invariant-loop-e
invariant-loop-e l = (l.e ≤ 16) × (found_at (view l.s) l.dir l.x 15 1 ≡ found_at (view l.s) l.dir l.x (16 - l.e) l.e)

abbrev pub decreases-loop-e : goal.decreases-loop-e
decreases-loop-e l = 16 - l.e
