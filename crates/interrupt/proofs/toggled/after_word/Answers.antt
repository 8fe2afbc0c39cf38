use Rattle.interrupt.specs.TransferLaws.{word_width}
use Rattle.interrupt.specs.Toggled.{after_word}
use mathlib.Core.Path.{refl}
use Rattle.interrupt.proofs.toggled.after_word.Goals as goal

pub returns-then-is_on : goal.returns-then-is_on
unfolding after_word
returns-then-is_on c = (
  λ b. simp (
    c.ctrl_of.ensures,
    ← c.is_on.ensures,
    c.if-is_on.true,
    ← c.repeated.ensures,
    c.if-repeated.true,
    ← c.load_ep-r.ensures,
    ← c.byte-word.ensures,
  ),
  (refl, simp (c.ctrl_of.ensures, word_width)),
)

pub returns-then-repeated : goal.returns-then-repeated
unfolding after_word
returns-then-repeated c = (
  λ b. simp (
    ← c.is_on.ensures,
    c.if-is_on.false,
    ← c.repeated.ensures,
    c.if-repeated.true,
    ← c.load_ep-r.ensures,
    ← c.byte-word.ensures,
  ),
  (refl, tt),
)

pub returns : goal.returns
unfolding after_word
returns c = (
  λ b. simp (
    c.store_ep.ensures.s_after,
    ← c.data1.ensures,
    ← c.repeated.ensures,
    c.if-repeated.false,
    ← c.load_ep-r.ensures,
    ← c.byte-word.ensures,
  ),
  (c.store_ep.ensures.s_unchanged, tt),
)
