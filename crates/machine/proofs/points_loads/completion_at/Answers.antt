use Rattle.machine.proofs.points_loads.completion_at.Goals as goal

pub returns : goal.returns
returns c =
    simp (c.now_byte.ensures, c.frame_word.ensures, c.st_byte.ensures, c.ep_byte.ensures)
