use mathlib.Core.Path.{◌≡◌}
use Prim.Native.Nat.{◌≤◌, ◌-◌}
use Rattle.state.specs.State.{view, saved}
use Rattle.script_ops.specs.Rings.{reset_below}
use Rattle.script_ops.proofs.slots.reset_eps.Given as goal

abbrev pub invariant-loop-e : goal.invariant-loop-e
invariant-loop-e l = (l.e ≤ 16) × ((view l.s ≡ reset_below l.e (view l.initial.s)) × (saved l.s ≡ saved l.initial.s))

abbrev pub decreases-loop-e : goal.decreases-loop-e
decreases-loop-e l = 16 - l.e
