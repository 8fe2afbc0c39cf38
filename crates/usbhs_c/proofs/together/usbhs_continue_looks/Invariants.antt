use mathlib.Core.Path.{◌≡◌}
use Prim.Native.Nat.{ℕ, ◌+◌}
use lib.ListN.{length}
use Rattle.readings.specs.Readings.{lent}
use Rattle.readings.specs.Passing.{Looked}
use Rattle.usbhs_c.proofs.together.usbhs_continue_looks.Given as goal

abbrev pub invariant-loop-left : goal.invariant-loop-left
invariant-loop-left l = (j : ℕ) × (j + l.left ≡ l.initial.left)
    × (length l.slots ≡ length l.initial.slots)
    × Looked j l.driver l.busy (lent l.initial.s l.initial.slots l.initial.time) (lent l.s l.slots l.time)

abbrev pub decreases-loop-left : goal.decreases-loop-left
decreases-loop-left l = l.left
