use Rattle.machine.proofs.points_loads.flag_dir_at.Goals as goal

pub returns : goal.returns
returns c = simp (c.dir_of.ensures, c.flag_byte.ensures)
