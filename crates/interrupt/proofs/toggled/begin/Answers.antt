use Rattle.interrupt.specs.Toggled.{after_wait, after_word}
use Rattle.interrupt.specs.WaitLaws.{wait-begun}
use mathlib.Core.Path.{refl}
use Rattle.interrupt.proofs.toggled.begin.Goals as goal

pub returns : goal.returns
unfolding after_wait after_word
returns c = (λ d b. simp (wait-begun), refl)
