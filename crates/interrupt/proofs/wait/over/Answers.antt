use Rattle.interrupt.specs.Wait.{over}
use Rattle.interrupt.proofs.wait.over.Goals as goal

pub returns-then-sie_free : goal.returns-then-sie_free
unfolding over
returns-then-sie_free c = simp (← c.sie_free.ensures, c.if-sie_free.true)

pub returns : goal.returns
unfolding over
returns c = simp (← c.sie_free.ensures, c.if-sie_free.false)
