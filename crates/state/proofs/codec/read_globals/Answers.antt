use Rattle.state.proofs.Fields.{five}
use Rattle.state.proofs.codec.read_globals.Goals as goal

pub returns : goal.returns
returns c = (
  c.get32.ensures,
  (
    c.get32-2.ensures,
    (
      c.get32-3.ensures,
      (
        c.get32-4.ensures,
        (
          c.get32-5.ensures,
          five c.get16x5-a.ensures ((
            c.get16.ensures,
            five c.get8x5-b.ensures (tt),
          )),
        ),
      ),
    ),
  ),
)
