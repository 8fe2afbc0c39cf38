use mathlib.Core.Path.{◌≡◌}
use Prim.Native.Nat.{◌-◌, ◌*◌, ◌≤◌}
use Rattle.bus_time.specs.Time.{total}
use Rattle.bus_time.proofs.in_use.Given as goal

abbrev pub invariant-loop-k : goal.invariant-loop-k
invariant-loop-k l = (l.k ≤ 128) × (l.sum ≤ l.k * 65535) × (l.sum ≡ total l.time l.k)

abbrev pub decreases-loop-k : goal.decreases-loop-k
decreases-loop-k l = 128 - l.k
