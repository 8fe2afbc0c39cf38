use Rattle.std.proofs.Common.{◌≡◌, ◌-◌, ◌≤◌, length}
use Rattle.ring.specs.Copies.{copied_run}
use Rattle.ring.proofs.marks.copy_few.Given as goal

abbrev pub invariant-loop-i : goal.invariant-loop-i
invariant-loop-i l = (length l.part ≡ length l.initial.part) × (l.n ≤ length l.packet) × (l.n ≤ length l.initial.part)
    × (copied_run l.packet l.part l.i (l.n - l.i) ≡ copied_run l.packet l.initial.part 0 l.n)

abbrev pub decreases-loop-i : goal.decreases-loop-i
decreases-loop-i l = l.n - l.i
