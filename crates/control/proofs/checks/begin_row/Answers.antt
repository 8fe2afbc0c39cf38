use borrow.Author.Tests.{lt-ltb}
use Rattle.control.specs.Rows.{begin_row}
use Rattle.control.proofs.Laws.{row_within}
use Rattle.control.proofs.checks.begin_row.Goals as goal

pub returns-then-g-n : goal.returns-then-g-n
unfolding begin_row
returns-then-g-n c =
    simp (lt-ltb _ _ c.if-g-n.true, c.if-is_started.true, ← c.is_started.ensures)

pub returns-then-is_on : goal.returns-then-is_on
returns-then-is_on c =
    row_within _ _ c.is_started.ensures c.if-is_started.true c.if-g-n.false c.is_on.ensures c.if-is_on.true

pub returns-then-is_started : goal.returns-then-is_started
returns-then-is_started c =
    row_within _ _ c.is_started.ensures c.if-is_started.true c.if-g-n.false c.is_on.ensures c.if-is_on.false

pub returns : goal.returns
unfolding begin_row
returns c = simp (c.if-is_started.false, ← c.is_started.ensures)
