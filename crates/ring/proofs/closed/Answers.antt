use Rattle.ring.specs.Slot.{passed_of}
use Rattle.ring.specs.Out.{closed_of}
use Rattle.ring.proofs.closed.Goals as goal

pub returns : goal.returns
unfolding closed_of passed_of
returns c = simp c.wrapping_add_u8.ensures.value
