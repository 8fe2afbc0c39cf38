use Rattle.std.proofs.Common.{arith}
use Rattle.state.specs.Driver.{key}
use Rattle.state.proofs.key_of.Goals as goal

pub returns-in-Out : goal.returns-in-Out
unfolding key
returns-in-Out c = (simp c.in-Out.is, omega arith)

pub returns-in-In : goal.returns-in-In
unfolding key
returns-in-In c = (simp c.in-In.is, omega arith)
