use borrow.Author.Tests.{eq-eqb, ne_eqb}
use Rattle.script_ops.specs.Rows.{refusal_of}
use Rattle.script_ops.proofs.rows.refusal.Goals as goal

pub returns-then-is_allocated : goal.returns-then-is_allocated
unfolding refusal_of
returns-then-is_allocated c =
    simp (
      ← c.load_globals-g.ensures,
      eq-eqb _ _ c.if-g-eq-STARTED.true,
      ← c.is_allocated.ensures,
      c.if-is_allocated.true,
    )

pub returns-then-g-eq-STARTED : goal.returns-then-g-eq-STARTED
unfolding refusal_of
returns-then-g-eq-STARTED c =
    simp (
      ← c.load_globals-g.ensures,
      eq-eqb _ _ c.if-g-eq-STARTED.true,
      ← c.is_allocated.ensures,
      c.if-is_allocated.false,
    )

pub returns : goal.returns
unfolding refusal_of
returns c = simp (← c.load_globals-g.ensures, ne_eqb _ _ c.if-g-eq-STARTED.false)
