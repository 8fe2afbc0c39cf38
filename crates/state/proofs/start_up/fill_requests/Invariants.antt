use Rattle.state.specs.Driver.{no_request}
use Rattle.state.proofs.Filling.{requests_table, Filling, Left}
use Rattle.state.proofs.start_up.fill_requests.Given as goal

abbrev pub invariant-loop-k : goal.invariant-loop-k
invariant-loop-k l = Filling requests_table no_request 32 l.initial.s l.initial.k l.s l.k

abbrev pub decreases-loop-k : goal.decreases-loop-k
decreases-loop-k l = Left 32 l.initial.s l.initial.k l.s l.k
