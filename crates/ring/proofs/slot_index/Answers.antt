use Rattle.std.proofs.Common.{eq-eqb, ne_eqb}
use Rattle.ring.specs.Slot.{slot_of}
use Rattle.ring.proofs.slot_index.Goals as goal

pub returns-then-n-eq0 : goal.returns-then-n-eq0
unfolding slot_of
returns-then-n-eq0 c = simp (eq-eqb _ _ c.if-n-eq0.true)

pub returns : goal.returns
unfolding slot_of
returns c = simp (ne_eqb _ _ c.if-n-eq0.false)
