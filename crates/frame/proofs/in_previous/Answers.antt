use Rattle.frame.specs.Advance.{in_previous}
use Rattle.frame.proofs.in_previous.Goals as goal

pub returns-then-is_none : goal.returns-then-is_none
unfolding in_previous
returns-then-is_none c = simp (← c.is_none.ensures, c.if-is_none.true)

pub returns : goal.returns
unfolding in_previous
returns c =
    simp (
      ← c.is_none.ensures,
      c.if-is_none.false,
      ← c.microframe_index-then.ensures,
      ← c.microframe_index.ensures,
      ← c.previous-before.ensures,
    )
