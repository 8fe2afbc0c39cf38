use Rattle.endpoint.proofs.points.point.Goals as goal

pub returns : goal.returns
returns c = simp c.dir_as.ensures
