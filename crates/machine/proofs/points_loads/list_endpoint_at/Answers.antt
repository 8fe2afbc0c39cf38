use Rattle.machine.proofs.points_loads.list_endpoint_at.Goals as goal

pub returns : goal.returns
returns c =
    simp (
      c.late_byte.ensures,
      c.busy_byte.ensures,
      c.ep_byte.ensures,
      c.st_byte.ensures,
      c.flag_dir_at.ensures,
    )
