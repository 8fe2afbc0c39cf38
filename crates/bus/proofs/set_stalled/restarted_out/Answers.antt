use Rattle.script.specs.Bus.{restarted_out}
use Rattle.bus.proofs.set_stalled.restarted_out.Goals as goal

pub returns-then-is_on : goal.returns-then-is_on
unfolding restarted_out
returns-then-is_on c = simp (c.restarted.ensures, ← c.is_on.ensures, c.if-is_on.true)

pub returns : goal.returns
unfolding restarted_out
returns c = simp (c.restarted-2.ensures, ← c.is_on.ensures, c.if-is_on.false)
