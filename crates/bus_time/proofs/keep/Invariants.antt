use mathlib.Core.Path.{◌≡◌}
use Prim.Native.Nat.{◌-◌, ◌≤◌}
use Rattle.bus_time.specs.Time.{kept}
use Rattle.bus_time.proofs.keep.Given as goal

abbrev pub invariant-loop-bit : goal.invariant-loop-bit
invariant-loop-bit l = (l.bit ≤ 32) × (l.time ≡ kept l.config l.first l.bit l.initial.time)

abbrev pub decreases-loop-bit : goal.decreases-loop-bit
decreases-loop-bit l = 32 - l.bit
