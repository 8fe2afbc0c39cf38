use Rattle.script.specs.Answers.{is_allocated}
use Rattle.script_ops.proofs.rows.allocated.Goals as goal

pub returns-in-Out : goal.returns-in-Out
unfolding is_allocated
returns-in-Out c e = simp c.in-Out.is

pub returns-in-In : goal.returns-in-In
unfolding is_allocated
returns-in-In c e = simp c.in-In.is
