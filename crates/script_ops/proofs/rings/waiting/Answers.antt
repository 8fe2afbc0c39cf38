use Rattle.script_ops.specs.Rings.{waiting_on}
use Rattle.script_ops.proofs.rings.waiting.Goals as goal

pub returns : goal.returns
unfolding waiting_on
returns c = simp (c.has_waiting.ensures, c.load_ep.ensures)
