use Rattle.usbhs_c.proofs.usbhs_begin_is_stalled.Goals as goal

pub returns : goal.returns
returns c = (
  _,
  c.word_of.ensures,
  (
    λ a b. simp (← c.dir_of.ensures) (c.begin_is_stalled.ensures.0 a b),
    c.begin_is_stalled.ensures.1,
  ),
)
