use Rattle.script.specs.Bus.{restarted_in}
use Rattle.bus.proofs.set_stalled.restarted_in.Goals as goal

pub returns : goal.returns
unfolding restarted_in
returns c = c.restarted.ensures
