use Rattle.interrupt.proofs.codec.code.Goals as goal

pub returns : goal.returns
returns c =
    simp (c.flag_of-4.ensures, c.flag_of-3.ensures, c.flag_of-2.ensures, c.flag_of.ensures)
