use Rattle.alloc.specs.Alloc.{nums_of}
use Rattle.alloc.proofs.masks.nums.Goals as goal

pub returns-then-iso : goal.returns-then-iso
unfolding nums_of
returns-then-iso c = simp c.if-iso.true

pub returns-else-iso : goal.returns-else-iso
unfolding nums_of
returns-else-iso c = simp c.if-iso.false
