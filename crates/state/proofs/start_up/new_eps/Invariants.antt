use Rattle.state.specs.Ep.{new_ep}
use Rattle.state.proofs.Filling.{eps_table, Filling, Left}
use Rattle.state.proofs.start_up.new_eps.Given as goal

abbrev pub invariant-loop-k : goal.invariant-loop-k
invariant-loop-k l = Filling eps_table new_ep 32 l.initial.s l.initial.k l.s l.k

abbrev pub decreases-loop-k : goal.decreases-loop-k
decreases-loop-k l = Left 32 l.initial.s l.initial.k l.s l.k
