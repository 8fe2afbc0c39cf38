use Rattle.interrupt.proofs.loads.busy_at.Goals as goal

pub returns : goal.returns
returns c = simp (c.is_on.ensures, c.busy_byte.ensures)
