use Rattle.ring.specs.Out.{overrun_of}
use Rattle.ring.proofs.overrun.Goals as goal

pub returns : goal.returns
unfolding overrun_of
returns c = simp c.wrapping_add_u32.ensures.value
