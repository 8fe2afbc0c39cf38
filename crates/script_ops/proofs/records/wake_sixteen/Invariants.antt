use mathlib.Core.Path.{◌≡◌}
use Prim.Native.Nat.{◌≤◌, ◌-◌}
use Rattle.state.specs.Driver.{with_wakes}
use Rattle.state.specs.State.{view, saved}
use Rattle.state.specs.Wakes.{codes_from, all_woken}
use Rattle.script_ops.proofs.records.wake_sixteen.Given as goal

abbrev pub invariant-loop-k : goal.invariant-loop-k
invariant-loop-k l = (l.k ≤ 16) × ((view l.s ≡ with_wakes (view l.initial.s) (all_woken (codes_from l.a l.k) (view l.initial.s).wakes)) × (saved l.s ≡ saved l.initial.s))

abbrev pub decreases-loop-k : goal.decreases-loop-k
decreases-loop-k l = 16 - l.k
