use Rattle.state.proofs.Fields.{five}
use Rattle.state.proofs.codec.read_ep.Goals as goal

pub returns : goal.returns
returns c = (
  c.get32.ensures,
  (
    c.get32-2.ensures,
    (
      c.get32-3.ensures,
      five c.get16x5-a.ensures ((
        c.get16.ensures,
        five c.get8x5-b.ensures ((c.get8.ensures, (c.get8-2.ensures, (c.get8-3.ensures, tt)))),
      )),
    ),
  ),
)
