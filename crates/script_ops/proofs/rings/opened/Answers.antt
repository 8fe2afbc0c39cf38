use Rattle.script_ops.specs.Rings.{opened_on}
use Rattle.script_ops.proofs.rings.opened.Goals as goal

pub returns : goal.returns
unfolding opened_on
returns c = simp (c.is_on_half.ensures, c.load_ep-r.ensures)
