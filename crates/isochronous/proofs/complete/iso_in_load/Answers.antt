use mathlib.Core.Path.{refl}
use Rattle.isochronous.proofs.complete.iso_in_load.Goals as goal

pub returns-then-waiting : goal.returns-then-waiting
returns-then-waiting c = (
  λ b. simp (← c.waiting.ensures, c.if-waiting.true, c.send-at.ensures.value, c.send-at.ensures.s_after),
  (c.send-at.ensures.s_unchanged, refl),
)

pub returns : goal.returns
returns c = (λ b. simp (← c.waiting.ensures, c.if-waiting.false), (refl, refl))
