use Rattle.interrupt.specs.Settle.{after_mis}
use mathlib.Core.Path.{refl}
use Rattle.interrupt.proofs.settle.after_mis.Goals as goal

pub returns-then-sie_free : goal.returns-then-sie_free
unfolding after_mis
returns-then-sie_free c =
    (λ d b. simp (← c.sie_free.ensures, c.if-sie_free.true, ← c.byte.ensures), refl)

pub returns : goal.returns
unfolding after_mis
returns c = (λ d b. simp (← c.sie_free.ensures, c.if-sie_free.false, ← c.byte.ensures), tt)
