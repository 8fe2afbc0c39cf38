use Rattle.state.specs.State.{saved}
use Rattle.answer.proofs.loads.eps_word.Goals as goal

pub returns : goal.returns
unfolding saved
returns c = c.get16.ensures
