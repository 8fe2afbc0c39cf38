use Prim.Native.Nat.{◌-◌, ◌≤◌}
use mathlib.Core.Path.{◌≡◌}
use Rattle.alloc.specs.Alloc.{lowest_of}
use Rattle.alloc.proofs.number.lowest.Given as goal

abbrev pub invariant-loop-e : goal.invariant-loop-e
invariant-loop-e l = (l.e ≤ 16) × (lowest_of l.a l.iso l.dir 15 1 ≡ lowest_of l.a l.iso l.dir (16 - l.e) l.e)

abbrev pub decreases-loop-e : goal.decreases-loop-e
decreases-loop-e l = 16 - l.e
