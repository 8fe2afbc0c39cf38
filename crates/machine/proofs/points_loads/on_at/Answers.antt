use Rattle.machine.proofs.points_loads.on_at.Goals as goal

pub returns : goal.returns
returns c = simp (c.is_on.ensures, c.flag_byte.ensures)
