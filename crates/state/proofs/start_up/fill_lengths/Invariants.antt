use Rattle.std.proofs.Common.{◌-◌, ◌≤◌}
use Rattle.state.proofs.Filling.{lens_table, Filled}
use Rattle.state.proofs.start_up.fill_lengths.Given as goal

abbrev pub invariant-loop-k : goal.invariant-loop-k
invariant-loop-k l = (l.k ≤ l.n) × Filled lens_table l.initial.s l.v l.a l.k l.s

abbrev pub decreases-loop-k : goal.decreases-loop-k
decreases-loop-k l = l.n - l.k
