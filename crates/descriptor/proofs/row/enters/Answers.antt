use Rattle.descriptor.specs.RowLaws.{entered_at}
use Rattle.descriptor.proofs.row.enters.Goals as goal

pub returns-then-inside : goal.returns-then-inside
returns-then-inside c = rw (entered_at, c.if-inside.true)

pub returns : goal.returns
returns c = rw (entered_at, c.if-inside.false, c.is_interface.ensures)
