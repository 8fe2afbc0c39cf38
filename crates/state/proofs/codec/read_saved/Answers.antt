use Rattle.state.proofs.Fields.{five}
use Rattle.state.proofs.codec.read_saved.Goals as goal

pub returns : goal.returns
returns c = (
  c.get32.ensures,
  (
    c.get16.ensures,
    (
      c.get16-2.ensures,
      (
        c.get16-3.ensures,
        (
          c.get16-4.ensures,
          five c.get8x5-a.ensures (five c.get8x5-b.ensures (tt)),
        ),
      ),
    ),
  ),
)
