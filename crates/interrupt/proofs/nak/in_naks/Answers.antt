use Rattle.script.specs.Handler.{in_naks}
use Rattle.interrupt.proofs.nak.in_naks.Goals as goal

pub returns-then-not-is_in : goal.returns-then-not-is_in
unfolding in_naks
returns-then-not-is_in c = simp (← c.is_in.ensures, c.if-not-is_in.true)

pub returns : goal.returns
unfolding in_naks
returns c = simp (← c.is_on.ensures, ← c.is_in.ensures, c.if-not-is_in.false)
