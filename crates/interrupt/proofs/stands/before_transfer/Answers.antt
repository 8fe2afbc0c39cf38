use Rattle.interrupt.proofs.stands.before_transfer.Goals as goal

pub returns : goal.returns
returns c = simp (c.code.ensures, c.none.ensures, c.early.ensures)
