use Rattle.std.proofs.Common.{◌≡◌, ◌-◌, ◌*◌, ◌%◌, ◌≤◌, length}
use Rattle.ring.specs.Marks.{marked_run}
use Rattle.ring.proofs.marks.mark_words.Given as goal

abbrev pub invariant-loop-i : goal.invariant-loop-i
invariant-loop-i l = (length l.part ≡ length l.initial.part) × (l.n * 4 ≤ length l.initial.part) × (l.i ≤ l.n % 4)
    × (marked_run l.part l.i (l.n - l.i) ≡ marked_run l.initial.part 0 l.n)

abbrev pub decreases-loop-i : goal.decreases-loop-i
decreases-loop-i l = l.n % 4 - l.i

abbrev pub invariant-loop-i-2 : goal.invariant-loop-i-2
invariant-loop-i-2 l = (length l.part ≡ length l.initial.part) × (l.n * 4 ≤ length l.initial.part) × (l.i ≤ l.n) × ((l.n - l.i) % 4 ≡ 0)
    × (marked_run l.part l.i (l.n - l.i) ≡ marked_run l.initial.part l.initial.i (l.n - l.initial.i))

abbrev pub decreases-loop-i-2 : goal.decreases-loop-i-2
decreases-loop-i-2 l = l.n - l.i
