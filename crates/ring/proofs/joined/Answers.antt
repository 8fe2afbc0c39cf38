use Rattle.ring.specs.Slot.{joined_of}
use Rattle.ring.proofs.joined.Goals as goal

pub returns : goal.returns
unfolding joined_of
returns c = simp c.wrapping_add_u8.ensures.value
