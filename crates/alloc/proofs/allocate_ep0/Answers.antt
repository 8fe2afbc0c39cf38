use borrow.Author.Tests.{eq-eqb, ne_eqb, lt-ltb, le-ltb, le-leb, lt-leb}
use Rattle.alloc.specs.Alloc.{allocate_ep0_of}
use Rattle.alloc.proofs.Product.{below}
use borrow.Author.Rules.{rules}
use Rattle.alloc.proofs.allocate_ep0.Goals as goal

pub returns-then-maximum-ne-EP0_MAX : goal.returns-then-maximum-ne-EP0_MAX
unfolding allocate_ep0_of
returns-then-maximum-ne-EP0_MAX c =
    simp (c.refused.ensures, ne_eqb _ _ c.if-maximum-ne-EP0_MAX.true)

pub returns-then-a-maximum : goal.returns-then-a-maximum
unfolding allocate_ep0_of
returns-then-a-maximum c =
    simp (c.refused-then-a-maximum.ensures, lt-ltb _ _ c.if-a-maximum.true, eq-eqb _ _ c.if-maximum-ne-EP0_MAX.false)

pub returns-then-a : goal.returns-then-a
unfolding allocate_ep0_of
returns-then-a c =
    simp (
      c.refused-then-a.ensures,
      le-leb _ _ c.if-a.true,
      le-ltb _ _ c.if-a-maximum.false,
      eq-eqb _ _ c.if-maximum-ne-EP0_MAX.false,
    )

pub overflow_mul-base : goal.overflow_mul-base
overflow_mul-base c = record { fits = below 16 (search rules) (search rules) }

pub returns : goal.returns
unfolding allocate_ep0_of
returns c =
    simp (
      c.with_next-after.ensures,
      lt-leb _ _ c.if-a.false,
      le-ltb _ _ c.if-a-maximum.false,
      eq-eqb _ _ c.if-maximum-ne-EP0_MAX.false,
    )
