use Rattle.usbhs_c.proofs.usbhs_begin_set_enabled.Goals as goal

pub returns : goal.returns
returns c =
    simp (← c.flag_of.ensures, ← c.dir_of.ensures) (_, c.word_of.ensures, c.begin_set_enabled.ensures)
