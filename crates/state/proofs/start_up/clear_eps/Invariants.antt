use Rattle.state.specs.Driver.{no_ep}
use Rattle.state.proofs.Filling.{eps_table, Filling, Left}
use Rattle.state.proofs.start_up.clear_eps.Given as goal

abbrev pub invariant-loop-k : goal.invariant-loop-k
invariant-loop-k l = Filling eps_table no_ep 32 l.initial.s l.initial.k l.s l.k

abbrev pub decreases-loop-k : goal.decreases-loop-k
decreases-loop-k l = Left 32 l.initial.s l.initial.k l.s l.k
