use Rattle.interrupt.proofs.codec.late_as.Goals as goal

pub returns : goal.returns
returns c = simp c.complete_as.ensures
