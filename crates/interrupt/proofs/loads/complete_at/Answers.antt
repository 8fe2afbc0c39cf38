use Rattle.interrupt.proofs.loads.complete_at.Goals as goal

pub returns : goal.returns
returns c = simp (c.complete_of.ensures, c.sub_byte.ensures, c.ep_byte.ensures)
