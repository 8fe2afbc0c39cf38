use Rattle.script_ops.specs.Rings.{changed_on}
use Rattle.script_ops.proofs.rings.changed.Goals as goal

pub returns : goal.returns
unfolding changed_on
returns c = simp (c.is_marked.ensures, c.load_ep-r.ensures)
