use Rattle.interrupt.proofs.loads.settle_at.Goals as goal

pub returns : goal.returns
returns c =
    simp (c.settle_of.ensures, c.sub_byte.ensures, c.now_byte.ensures, c.n_word.ensures)
