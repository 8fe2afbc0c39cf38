use borrow.Author.Tests.{eq-eqb, ne_eqb}
use Rattle.alloc.specs.Buffer.{good_buffer}
use Rattle.alloc.proofs.buffer.good_buffer.Goals as goal

pub returns-then-not-validate_buffer_size : goal.returns-then-not-validate_buffer_size
unfolding good_buffer
returns-then-not-validate_buffer_size c =
    simp (c.if-not-validate_buffer_size.true, ← c.validate_buffer_size.ensures)

pub returns-then-count-eq0 : goal.returns-then-count-eq0
unfolding good_buffer
returns-then-count-eq0 c =
    simp (
      eq-eqb _ _ c.if-count-eq0.true,
      c.if-not-validate_buffer_size.false,
      ← c.validate_buffer_size.ensures,
    )

pub returns : goal.returns
unfolding good_buffer
returns c =
    simp (
      c.product.ensures,
      ne_eqb _ _ c.if-count-eq0.false,
      c.if-not-validate_buffer_size.false,
      ← c.validate_buffer_size.ensures,
    )
