use mathlib.Core.Path.{◌≡◌}
use mathlib.Core.Bool.{false}
use Prim.Native.Nat.{ℕ, ◌+◌, ◌-◌, ◌≤◌}
use lib.ListN.{length, drop}
use Rattle.descriptor.specs.Row.{is_row}
use Rattle.descriptor.proofs.row.is_row.Given as goal

abbrev pub invariant-loop-at : goal.invariant-loop-at
invariant-loop-at l = (l.at ≤ length l.bytes) × (n : ℕ) × (length l.bytes ≤ l.at + n)
    × (is_row n l.inside (drop l.at l.bytes) ≡ is_row (length l.bytes) false (drop l.from l.bytes))

abbrev pub decreases-loop-at : goal.decreases-loop-at
decreases-loop-at l = length l.bytes - l.at
