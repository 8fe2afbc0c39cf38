use Rattle.alloc.specs.Alloc.{taken_ins}
use Rattle.alloc.proofs.masks.taken_in.Goals as goal

pub returns-in-Out : goal.returns-in-Out
unfolding taken_ins
returns-in-Out c = simp c.in-Out.is

pub returns-in-In : goal.returns-in-In
unfolding taken_ins
returns-in-In c = simp c.in-In.is
