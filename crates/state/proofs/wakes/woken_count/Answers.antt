use Rattle.state.specs.State.{view}
use Rattle.state.proofs.wakes.woken_count.Goals as goal

pub returns : goal.returns
unfolding view
returns c = c.get8.ensures
