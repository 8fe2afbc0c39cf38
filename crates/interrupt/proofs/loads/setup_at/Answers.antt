use Rattle.interrupt.proofs.loads.setup_at.Goals as goal

pub returns : goal.returns
returns c = simp (c.is_on.ensures, c.flag_byte.ensures)
