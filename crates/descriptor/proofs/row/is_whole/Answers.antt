use borrow.Author.Tests.{le-leb, lt-leb}
use Rattle.descriptor.specs.RowLaws.{whole-at}
use Rattle.descriptor.proofs.row.is_whole.Goals as goal

pub returns-then-left-lt2 : goal.returns-then-left-lt2
returns-then-left-lt2 c = rw (whole-at, lt-leb _ _ c.if-left-lt2.true)

pub returns-then-bytes-at : goal.returns-then-bytes-at
returns-then-bytes-at c =
    let a = le-leb _ _ c.if-left-lt2.false in
    rw (whole-at, a, ← c.least.ensures, lt-leb _ _ c.if-bytes-at.true)

pub returns : goal.returns
returns c =
    let a = le-leb _ _ c.if-left-lt2.false in
    let b = le-leb _ _ c.if-bytes-at.false in
    rw (whole-at, a, ← c.least.ensures, b, ← c.wide.ensures)
