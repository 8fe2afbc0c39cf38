use Rattle.interrupt.proofs.loads.nak_at.Goals as goal

pub returns : goal.returns
returns c = simp (c.nak_of.ensures, c.sub_byte.ensures)
