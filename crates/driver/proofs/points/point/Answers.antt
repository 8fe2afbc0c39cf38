use Rattle.driver.proofs.points.point.Goals as goal

pub returns : goal.returns
returns c = simp c.flag_of.ensures
