use borrow.Author.Tests.{eq-eqb, ne_eqb}
use Rattle.control.specs.Rows.{poll_row}
use Rattle.control.proofs.checks.poll_row.Goals as goal

pub returns-then-c-sort : goal.returns-then-c-sort
unfolding poll_row
returns-then-c-sort c =
    simp (eq-eqb _ _ c.if-c-sort.true, c.if-is_started.true, ← c.is_started.ensures)

pub returns-then-is_started : goal.returns-then-is_started
unfolding poll_row
returns-then-is_started c =
    simp (ne_eqb _ _ c.if-c-sort.false, c.if-is_started.true, ← c.is_started.ensures)

pub returns : goal.returns
unfolding poll_row
returns c = simp (c.if-is_started.false, ← c.is_started.ensures)
