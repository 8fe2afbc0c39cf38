use Rattle.state.proofs.Filling.{paced_table, Filling, Left}
use Rattle.state.proofs.start_up.fill_paced.Given as goal

abbrev pub invariant-loop-k : goal.invariant-loop-k
invariant-loop-k l = Filling paced_table 0x1800 16 l.initial.s l.initial.k l.s l.k

abbrev pub decreases-loop-k : goal.decreases-loop-k
decreases-loop-k l = Left 16 l.initial.s l.initial.k l.s l.k
