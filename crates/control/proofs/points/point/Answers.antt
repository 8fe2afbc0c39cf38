use Rattle.control.proofs.points.point.Goals as goal

pub returns : goal.returns
returns c = simp (c.flag_of.ensures, c.dir_as.ensures)
