use Rattle.machine.proofs.points_loads.iso_at.Goals as goal

pub returns : goal.returns
returns c = simp (c.is_on.ensures, c.busy_byte.ensures)
