use Rattle.interrupt.specs.StandsLaws.{stands_at}
use Rattle.interrupt.proofs.stands.stand_moved_wrote.Goals as goal

pub returns : goal.returns
returns c =
    stands_at c.stand.ensures (simp (c.code.ensures, c.on_dir.ensures, c.early.ensures))
