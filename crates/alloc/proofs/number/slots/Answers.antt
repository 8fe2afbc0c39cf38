use Rattle.alloc.specs.Alloc.{slots_of}
use Rattle.alloc.proofs.number.slots.Goals as goal

pub returns-in-Out : goal.returns-in-Out
unfolding slots_of
returns-in-Out c = simp (c.in-Out.is, c.if-iso.true)

pub returns-in-In : goal.returns-in-In
unfolding slots_of
returns-in-In c = simp (c.in-In.is, c.if-iso.true)

pub returns-else-iso : goal.returns-else-iso
unfolding slots_of
returns-else-iso c = simp c.if-iso.false
