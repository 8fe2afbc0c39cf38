use mathlib.Core.Path.{◌≡◌}
use Prim.Native.Nat.{◌≤◌, ◌-◌}
use Rattle.state.specs.State.{view}
use Rattle.usbhs_c.specs.Woken.{written}
use Rattle.usbhs_c.proofs.woken.list_into.Given as goal

abbrev pub invariant-loop-k : goal.invariant-loop-k
invariant-loop-k l = (l.k ≤ l.n) × (l.room ≡ written l.k (view l.s).wakes.codes l.initial.room)

abbrev pub decreases-loop-k : goal.decreases-loop-k
decreases-loop-k l = l.n - l.k
