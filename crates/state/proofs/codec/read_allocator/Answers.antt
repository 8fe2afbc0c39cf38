use Rattle.state.proofs.Fields.{five}
use Rattle.state.proofs.codec.read_allocator.Goals as goal

pub returns : goal.returns
returns c =
    five c.get16x5-a.ensures ((c.get16.ensures, (c.get16-2.ensures, (c.get16-3.ensures, (c.get16-4.ensures, tt)))))
