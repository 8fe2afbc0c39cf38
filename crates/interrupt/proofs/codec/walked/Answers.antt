use Rattle.interrupt.proofs.codec.walked.Goals as goal

pub returns : goal.returns
returns c = simp (c.inner.ensures, c.flag_of.ensures)
