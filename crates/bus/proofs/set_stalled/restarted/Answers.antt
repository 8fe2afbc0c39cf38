use Rattle.bus.specs.SetStalledLaws.{and_no, and_yes}
use Rattle.script.specs.Bus.{restarted}
use Rattle.bus.proofs.set_stalled.restarted.Goals as goal

pub returns-then-is_on : goal.returns-then-is_on
unfolding restarted
returns-then-is_on c = simp (c.word_of.ensures, ← c.is_on.ensures, c.if-is_on.true, and_no)

pub returns : goal.returns
unfolding restarted
returns c = simp (c.word_of-2.ensures, ← c.is_on.ensures, c.if-is_on.false, and_yes)
