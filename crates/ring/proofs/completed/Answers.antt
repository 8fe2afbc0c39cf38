use Rattle.std.proofs.Common.{eq-eqb, ne_eqb}
use Rattle.ring.specs.Slot.{passed_of}
use Rattle.ring.specs.In.{completed_of}
use Rattle.ring.proofs.completed.Goals as goal

pub returns-then-s-eq0 : goal.returns-then-s-eq0
unfolding completed_of passed_of
returns-then-s-eq0 c = simp (eq-eqb _ _ c.if-s-eq0.true)

pub returns : goal.returns
unfolding completed_of passed_of
returns c = simp (ne_eqb _ _ c.if-s-eq0.false, c.wrapping_add_u8.ensures.value)
