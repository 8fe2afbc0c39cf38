use Rattle.interrupt.proofs.loads.toggled_at.Goals as goal

pub returns : goal.returns
returns c = simp (c.toggled_of.ensures, c.sub_byte.ensures, c.n_word.ensures)
