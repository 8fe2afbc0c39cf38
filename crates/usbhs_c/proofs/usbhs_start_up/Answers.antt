use Rattle.usbhs_c.proofs.usbhs_start_up.Goals as goal

pub returns : goal.returns
returns c =
    (_, c.word_of.ensures, (λ a. simp (← c.flag_of.ensures) (c.start_up.ensures.by_index a), c.start_up.ensures.saved_by_answer))
