use Rattle.alloc.specs.Alloc.{is_out}
use Rattle.alloc.proofs.masks.is_out.Goals as goal

pub returns-in-Out : goal.returns-in-Out
unfolding is_out
returns-in-Out c = simp c.in-Out.is

pub returns-in-In : goal.returns-in-In
unfolding is_out
returns-in-In c = simp c.in-In.is
