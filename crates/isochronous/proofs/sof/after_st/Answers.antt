use mathlib.Core.Path.{refl}
use Rattle.isochronous.specs.Sof.{walking}
use Rattle.isochronous.proofs.sof.after_st.Goals as goal

pub returns-then-leaving : goal.returns-then-leaving
unfolding walking
returns-then-leaving c = (
  λ b. simp (
    c.walk.ensures.0,
    ← c.byte.ensures,
    ← c.leaving.ensures,
    c.if-leaving.true,
  ),
  (refl, c.walk.ensures.1),
)

pub returns : goal.returns
returns c = (
  λ b. simp (
    c.unseen.ensures.0,
    ← c.byte.ensures,
    ← c.leaving.ensures,
    c.if-leaving.false,
  ),
  (c.unseen.ensures.1.0, c.unseen.ensures.1.1),
)
