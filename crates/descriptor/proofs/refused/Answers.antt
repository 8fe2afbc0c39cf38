use Rattle.descriptor.proofs.refused.Goals as goal

pub returns : goal.returns
returns c = rw c.empty.ensures
