use mathlib.Core.Path.{◌≡◌}
use Prim.Native.Nat.{◌-◌, ◌≤◌}
use Rattle.state.specs.State.{view, saved}
use Rattle.descriptor.specs.Writing.{up_to}
use Rattle.driver.specs.Each.{each_on}
use Rattle.driver.proofs.alloc_all.allocate_each.Given as goal

abbrev pub invariant-loop-i : goal.invariant-loop-i
invariant-loop-i l = (l.i ≤ l.n) × ((l.n ≤ 32) × ((view l.s ≡ each_on (view l.initial.s) (up_to l.i l.list.entries))
    × (saved l.s ≡ saved l.initial.s)))

abbrev pub decreases-loop-i : goal.decreases-loop-i
decreases-loop-i l = l.n - l.i
