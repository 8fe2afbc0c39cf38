use Rattle.interrupt.proofs.loads.check_at.Goals as goal

pub returns : goal.returns
returns c =
    simp (c.check_of.ensures, c.sub_byte.ensures, c.ep_byte.ensures, c.eps_word.ensures)
