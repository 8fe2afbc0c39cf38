use Rattle.std.proofs.Common.{◌<◌, ◌≤◌}
use Rattle.print.proofs.text.items.Given as goal

abbrev pub invariant-loop-i : goal.invariant-loop-i
invariant-loop-i g l = (l.bit < 32) × (l.from ≤ l.i)
