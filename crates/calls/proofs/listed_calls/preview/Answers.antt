use mathlib.Core.Path.{◌∙◌}
use borrow.Author.Tests.{eq-eqb, ne_eqb}
use Rattle.calls.proofs.listed_calls.preview.Goals as goal

pub returns-then-n-eq0 : goal.returns-then-n-eq0
returns-then-n-eq0 c =
    c.preview.ensures ∙ simp (c.load_allocator.ensures, ← c.stop-n.ensures, eq-eqb _ _ c.if-n-eq0.true)

pub returns : goal.returns
returns c = c.refused.ensures ∙ simp (← c.stop-n.ensures, ne_eqb _ _ c.if-n-eq0.false)
