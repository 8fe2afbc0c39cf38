use Rattle.driver.proofs.points.endpoint.Goals as goal

pub returns : goal.returns
returns c = simp c.dir_as.ensures
