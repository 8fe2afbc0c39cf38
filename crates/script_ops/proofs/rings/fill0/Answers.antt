use borrow.Author.Tests.{lt-ltb, le-ltb}
use Rattle.script_ops.specs.Rings.{filled_ep0}
use Rattle.script_ops.proofs.rings.fill0.Goals as goal

pub returns-then-g-bytes : goal.returns-then-g-bytes
unfolding filled_ep0
returns-then-g-bytes c = simp (lt-ltb _ _ c.if-g-bytes.true, ← c.load_globals-g.ensures)

pub returns : goal.returns
unfolding filled_ep0
returns c =
    simp (
      c.copy_in.ensures,
      le-ltb _ _ c.if-g-bytes.false,
      ← c.load_globals-g.ensures,
    )
