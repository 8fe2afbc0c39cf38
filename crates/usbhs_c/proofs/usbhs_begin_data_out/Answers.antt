use Rattle.usbhs_c.proofs.usbhs_begin_data_out.Goals as goal

pub returns : goal.returns
returns c = (
  _,
  c.word_of.ensures,
  (λ a b. simp (← c.flag_of.ensures) (c.begin_data_out.ensures.0 a b), c.begin_data_out.ensures.1),
)
