use mathlib.Core.Path.{refl}
use Rattle.isochronous.proofs.sof.after_mis.Goals as goal

pub returns-then-sie_free : goal.returns-then-sie_free
returns-then-sie_free c = (
  λ b. simp (
    c.unseen.ensures.0,
    ← c.byte.ensures,
    ← c.sie_free.ensures,
    c.if-sie_free.true,
  ),
  (c.unseen.ensures.1.0, c.unseen.ensures.1.1),
)

pub returns : goal.returns
returns c =
    (λ b. simp (← c.byte.ensures, ← c.sie_free.ensures, c.if-sie_free.false), (refl, refl))
