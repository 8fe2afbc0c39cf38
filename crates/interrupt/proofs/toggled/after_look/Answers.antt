use Rattle.interrupt.specs.TransferLaws.{word_width}
use Rattle.interrupt.specs.Toggled.{after_wait}
use Rattle.interrupt.specs.WaitLaws.{over-told, some_left, wait-more, wait-over}
use mathlib.Core.Path.{refl}
use native.Mathlib.Omega.{arith}
use Rattle.interrupt.proofs.toggled.after_look.Goals as goal

pub returns-then-over : goal.returns-then-over
unfolding after_wait
returns-then-over c = (
  λ d b. simp (
    c.ctrl_of.ensures,
    wait-over _ _ (over-told _ _ _ _ _ c.byte.ensures c.over.ensures c.if-over.true),
  ),
  simp (c.ctrl_of.ensures, word_width),
)

pub overflow_sub-result : goal.overflow_sub-result
overflow_sub-result c =
    let h = some_left _ _ (over-told _ _ _ _ _ c.byte.ensures c.over.ensures c.if-over.false) in omega (arith, h)

pub returns : goal.returns
returns c =
    (λ d b. simp (wait-more _ _ (over-told _ _ _ _ _ c.byte.ensures c.over.ensures c.if-over.false)), refl)
