use Rattle.interrupt.proofs.loads.dir_at.Goals as goal

pub returns : goal.returns
returns c = simp (c.dir_of.ensures, c.ep_byte.ensures)
