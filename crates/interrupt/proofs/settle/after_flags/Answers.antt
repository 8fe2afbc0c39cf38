use Rattle.interrupt.specs.Settle.{after_flags}
use mathlib.Core.Path.{refl}
use Rattle.interrupt.proofs.settle.after_flags.Goals as goal

pub returns-then-transfer : goal.returns-then-transfer
unfolding after_flags
returns-then-transfer c =
    (λ d b. simp (← c.transfer.ensures, c.if-transfer.true, ← c.byte.ensures), tt)

pub returns : goal.returns
unfolding after_flags
returns c = (λ d b. simp (← c.transfer.ensures, c.if-transfer.false, ← c.byte.ensures), refl)
