use Rattle.std.proofs.Common.{◌≡◌, ◌*◌, ◌≤◌, length}
use Rattle.ring.specs.Marks.{found}
use Rattle.ring.proofs.marks.unmarked_words.Given as goal

abbrev pub invariant-loop-i : goal.invariant-loop-i
invariant-loop-i l = (l.i ≤ l.n) × (l.n * 4 ≤ length l.part) × (found (l.i * 4) l.part ≡ found (l.n * 4) l.part)

abbrev pub decreases-loop-i : goal.decreases-loop-i
decreases-loop-i l = l.i
