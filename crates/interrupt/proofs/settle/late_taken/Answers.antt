use Rattle.interrupt.proofs.settle.late_taken.Goals as goal

pub returns : goal.returns
returns c = simp c.same_out.ensures
