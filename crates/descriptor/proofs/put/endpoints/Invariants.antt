use mathlib.Core.Path.{◌≡◌}
use Prim.Native.Nat.{◌-◌, ◌≤◌}
use lib.ListN.{length}
use Rattle.descriptor.specs.Writing.{laid, total_for, endpoints, up_to}
use Rattle.descriptor.proofs.put.endpoints.Given as goal

abbrev pub invariant-loop-i : goal.invariant-loop-i
invariant-loop-i l = (l.i ≤ l.n) × (l.n ≤ 32) × (total_for l.n ≤ length l.initial.room) × (l.room ≡ laid l.initial.room 18 (endpoints (up_to l.i l.list.entries)))

abbrev pub decreases-loop-i : goal.decreases-loop-i
decreases-loop-i l = l.n - l.i
