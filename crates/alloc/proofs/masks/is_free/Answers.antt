use Rattle.alloc.specs.Alloc.{is_free}
use Rattle.alloc.proofs.masks.is_free.Goals as goal

pub returns-then-has : goal.returns-then-has
unfolding is_free
returns-then-has c = simp (c.if-has.true, ← c.has.ensures, ← c.taken_in.ensures)

pub returns : goal.returns
unfolding is_free
returns c =
    simp (
      c.has-2.ensures,
      ← c.nums.ensures,
      c.if-has.false,
      ← c.has.ensures,
      ← c.taken_in.ensures,
    )
