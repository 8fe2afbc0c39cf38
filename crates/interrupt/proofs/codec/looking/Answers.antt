use Rattle.interrupt.proofs.codec.looking.Goals as goal

pub returns : goal.returns
returns c = simp (c.inner.ensures, c.dir_as.ensures, c.flag_of.ensures)
