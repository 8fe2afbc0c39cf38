use Rattle.script_ops.specs.Rings.{room_on}
use Rattle.script_ops.proofs.rings.room.Goals as goal

pub returns : goal.returns
unfolding room_on
returns c = simp (c.takes.ensures, c.load_ep.ensures)
