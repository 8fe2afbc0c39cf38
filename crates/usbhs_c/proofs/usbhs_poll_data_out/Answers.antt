use Rattle.usbhs_c.proofs.usbhs_poll_data_out.Goals as goal

pub returns : goal.returns
returns c = (
  (_, c.word_of.ensures, (c.poll_data_out.ensures.0, c.poll_data_out.ensures.1.1)),
  c.poll_data_out.ensures.1.0,
)
