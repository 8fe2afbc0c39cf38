use Rattle.bus.proofs.points.point.Goals as goal

pub returns : goal.returns
returns c = simp (c.flag_of-2.ensures, c.flag_of.ensures, c.dir_as.ensures)
