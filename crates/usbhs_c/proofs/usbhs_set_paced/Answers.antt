use Rattle.usbhs_c.proofs.usbhs_set_paced.Goals as goal

pub returns : goal.returns
returns c = (
  _,
  c.word_of.ensures,
  (λ a b. simp (← c.flag_of.ensures) (c.set_paced.ensures.by_index a b), c.set_paced.ensures.s_unchanged),
)
