use Rattle.descriptor.proofs.is_short.Goals as goal

pub returns : goal.returns
returns c = rw c.count-n.ensures
