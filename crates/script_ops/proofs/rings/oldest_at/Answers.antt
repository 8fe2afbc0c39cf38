use Rattle.script_ops.specs.Rings.{oldest_at}
use Rattle.script_ops.proofs.rings.oldest_at.Goals as goal

pub returns : goal.returns
unfolding oldest_at
returns c = simp (c.slot_addr.ensures, c.load_ep-r.ensures)
