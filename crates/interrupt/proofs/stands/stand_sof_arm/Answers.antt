use Rattle.interrupt.specs.StandsLaws.{stands_at}
use Rattle.interrupt.proofs.stands.stand_sof_arm.Goals as goal

pub returns : goal.returns
returns c = stands_at c.stand.ensures (simp (c.code.ensures, c.sof_as.ensures))
