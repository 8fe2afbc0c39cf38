use Rattle.state.specs.State.{saved}
use Rattle.answer.proofs.loads.st_byte.Goals as goal

pub returns : goal.returns
unfolding saved
returns c = c.get8.ensures
