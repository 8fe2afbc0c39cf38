use mathlib.Core.Path.{refl}
use Rattle.isochronous.proofs.out.arm.Goals as goal

pub returns : goal.returns
returns c x iso = (
  simp (
    c.arrive-at.ensures.value,
    c.arrive-at.ensures.s_after,
    c.arrive-at.ensures.buf_after,
  ),
  (c.arrive-at.ensures.s_unchanged, refl),
)
