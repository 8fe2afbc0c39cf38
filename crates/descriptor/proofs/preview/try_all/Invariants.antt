use mathlib.Core.Path.{◌≡◌}
use Prim.Native.Nat.{◌-◌, ◌*◌, ◌≤◌}
use Rattle.descriptor.specs.Writing.{up_to}
use Rattle.descriptor.specs.Trial.{tried}
use Rattle.descriptor.proofs.preview.try_all.Given as goal

abbrev pub invariant-loop-i : goal.invariant-loop-i
invariant-loop-i l = (l.i ≤ l.n) × (l.n ≤ 32) × (l.t.count ≤ l.i) × (l.t.buffers ≤ l.i * 16) × (l.t ≡ tried l.initial.t (up_to l.i l.list.entries))

abbrev pub decreases-loop-i : goal.decreases-loop-i
decreases-loop-i l = l.n - l.i
