use Rattle.usbhs_c.proofs.usbhs_allocate.Goals as goal

pub returns : goal.returns
returns c = (
  _,
  c.word_of.ensures,
  (λ a b. simp (← c.dir_of.ensures) (c.allocate.ensures.0 a b), c.allocate.ensures.1),
)
