use Rattle.std.proofs.Common.{◌≡◌, ◌-◌, ◌%◌, ◌≤◌, length}
use Rattle.ring.specs.Copies.{copied_run}
use Rattle.ring.proofs.marks.copy.Given as goal

abbrev pub invariant-loop-i : goal.invariant-loop-i
invariant-loop-i l = (length l.part ≡ length l.initial.part) × (l.n ≡ length l.packet) × (l.n ≤ length l.initial.part) × (l.i ≤ l.n) × ((l.n - l.i) % 32 ≡ 0)
    × (copied_run l.packet l.part l.i (l.n - l.i) ≡ copied_run l.packet l.initial.part l.initial.i (l.n - l.initial.i))

abbrev pub decreases-loop-i : goal.decreases-loop-i
decreases-loop-i l = l.n - l.i
