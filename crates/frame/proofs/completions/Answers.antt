use Rattle.frame.specs.Advance.{completions}
use Rattle.frame.proofs.completions.Goals as goal

pub returns-then-is_none : goal.returns-then-is_none
unfolding completions
returns-then-is_none c = simp (← c.is_none.ensures, c.if-is_none.true)

pub returns : goal.returns
unfolding completions
returns c =
    simp (
      c.at_most_3.ensures,
      ← c.is_none.ensures,
      c.if-is_none.false,
      ← c.microframe_index.ensures,
      ← c.distance.ensures,
    )
