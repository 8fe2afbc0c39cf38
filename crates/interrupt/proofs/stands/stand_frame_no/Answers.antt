use Rattle.interrupt.specs.StandsLaws.{stands_at}
use Rattle.interrupt.proofs.stands.stand_frame_no.Goals as goal

pub returns : goal.returns
returns c = stands_at c.stand_read.ensures (simp (c.code.ensures, c.none.ensures))
