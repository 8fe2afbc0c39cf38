use Rattle.state.specs.Wakes.{wake_code}
use Rattle.state.proofs.wakes.wake_code.Goals as goal

pub returns-in-Out : goal.returns-in-Out
unfolding wake_code
returns-in-Out c = simp c.in-Out.is

pub returns-in-In : goal.returns-in-In
unfolding wake_code
returns-in-In c = simp c.in-In.is
