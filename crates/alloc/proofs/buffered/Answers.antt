use borrow.Author.Tests.{lt-ltb, le-ltb}
use Rattle.alloc.specs.Alloc.{buffered_of}
use Rattle.alloc.proofs.Product.{below}
use borrow.Author.Rules.{rules}
use Rattle.alloc.proofs.buffered.Goals as goal

pub returns-then-a-end : goal.returns-then-a-end
unfolding buffered_of
returns-then-a-end c =
    simp (
      c.refused.ensures,
      lt-ltb _ _ c.if-a-end.true,
      ← c.end-end.ensures,
      ← c.slots-n.ensures,
    )

pub overflow_mul-base : goal.overflow_mul-base
overflow_mul-base c = record { fits = below 16 (search rules) (search rules) }

pub returns : goal.returns
unfolding buffered_of
returns c =
    simp (
      c.with_allocated-after.ensures,
      ← c.with_next-used.ensures,
      ← c.taken-t.ensures,
      le-ltb _ _ c.if-a-end.false,
      ← c.end-end.ensures,
      ← c.slots-n.ensures,
    )
