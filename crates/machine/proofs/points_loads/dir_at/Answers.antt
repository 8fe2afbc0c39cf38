use Rattle.machine.proofs.points_loads.dir_at.Goals as goal

pub returns : goal.returns
returns c = simp (c.dir_of.ensures, c.site_byte.ensures)
