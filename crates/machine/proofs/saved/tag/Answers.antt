use Rattle.machine.proofs.saved.tag.Goals as goal

pub returns : goal.returns
returns c = simp c.load_saved-c.ensures
