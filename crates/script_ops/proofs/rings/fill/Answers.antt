use borrow.Author.Tests.{lt-ltb, le-ltb}
use Rattle.script_ops.specs.Rings.{filled_on}
use Rattle.script_ops.proofs.rings.fill.Goals as goal

pub returns-then-is_on : goal.returns-then-is_on
unfolding filled_on
returns-then-is_on c = simp (c.if-is_on.true, ← c.is_on.ensures, ← c.load_ep-r.ensures)

pub returns-then-r-bytes : goal.returns-then-r-bytes
unfolding filled_on
returns-then-r-bytes c =
    simp (
      lt-ltb _ _ c.if-r-bytes.true,
      c.if-is_on.false,
      ← c.is_on.ensures,
      ← c.load_ep-r.ensures,
    )

pub returns : goal.returns
unfolding filled_on
returns c =
    simp (
      c.copy_in.ensures,
      le-ltb _ _ c.if-r-bytes.false,
      c.if-is_on.false,
      ← c.is_on.ensures,
      ← c.load_ep-r.ensures,
    )
