use Rattle.ring.specs.In.{next_load}
use Rattle.ring.proofs.next_load.Goals as goal

pub returns-then-has_waiting : goal.returns-then-has_waiting
unfolding next_load
returns-then-has_waiting c =
    simp (← c.has_waiting.ensures, c.if-has_waiting.true, ← c.slot_addr.ensures)

pub returns : goal.returns
unfolding next_load
returns c = simp (← c.has_waiting.ensures, c.if-has_waiting.false)
