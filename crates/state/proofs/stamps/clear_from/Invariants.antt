use Rattle.std.proofs.Common.{◌-◌, ◌≤◌}
use Rattle.state.proofs.Filling.{stamps_table, Filled}
use Rattle.state.proofs.stamps.clear_from.Given as goal

abbrev pub invariant-loop-k : goal.invariant-loop-k
invariant-loop-k l = (l.k ≤ l.n) × Filled stamps_table l.initial.s 0 l.a l.k l.s

abbrev pub decreases-loop-k : goal.decreases-loop-k
decreases-loop-k l = l.n - l.k
