use Rattle.usbhs_c.proofs.usbhs_poll_read.Goals as goal

pub returns : goal.returns
returns c = (
  (_, c.word_of.ensures, (c.poll_read.ensures.0, c.poll_read.ensures.1.1)),
  c.poll_read.ensures.1.0,
)
