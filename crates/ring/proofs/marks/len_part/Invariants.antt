use Rattle.std.proofs.Common.{◌≡◌, ◌≤◌, length}
use Rattle.ring.specs.Marks.{found}
use Rattle.ring.proofs.marks.len_part.Given as goal

abbrev pub invariant-loop-n : goal.invariant-loop-n
invariant-loop-n l = (l.n ≤ l.max) × (l.max ≤ length l.part) × (found l.n l.part ≡ found l.max l.part)

abbrev pub decreases-loop-n : goal.decreases-loop-n
decreases-loop-n l = l.n
