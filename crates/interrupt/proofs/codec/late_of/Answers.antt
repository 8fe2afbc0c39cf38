use Rattle.interrupt.proofs.codec.late_of.Goals as goal

pub returns : goal.returns
returns c = simp c.complete_of-completing.ensures
