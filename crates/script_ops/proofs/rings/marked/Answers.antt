use Rattle.script_ops.specs.Rings.{marked_on}
use Rattle.script_ops.proofs.rings.marked.Goals as goal

pub returns : goal.returns
unfolding marked_on
returns c = simp (c.marked_len.ensures, c.load_ep-r.ensures)
