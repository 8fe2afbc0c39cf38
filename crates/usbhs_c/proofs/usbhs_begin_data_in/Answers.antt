use Rattle.usbhs_c.proofs.usbhs_begin_data_in.Goals as goal

pub returns : goal.returns
returns c =
    simp (← c.flag_of-2.ensures, ← c.flag_of.ensures) (_, c.word_of.ensures, c.begin_data_in.ensures)
