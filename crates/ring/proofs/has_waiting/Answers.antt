use Rattle.ring.specs.Slot.{count_of, has_waiting}
use Rattle.ring.proofs.has_waiting.Goals as goal

pub returns : goal.returns
unfolding count_of has_waiting
returns c = simp (← c.count.ensures)
