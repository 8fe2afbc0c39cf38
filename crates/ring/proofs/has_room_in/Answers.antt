use Rattle.ring.specs.Slot.{count_of}
use Rattle.ring.specs.In.{has_room_in}
use Rattle.ring.proofs.has_room_in.Goals as goal

pub returns : goal.returns
unfolding count_of has_room_in
returns c = simp (← c.count.ensures)
