use Rattle.isochronous.specs.Late.{walking}
use Rattle.isochronous.proofs.late.begin.Goals as goal

pub returns : goal.returns
unfolding walking
returns c = (
  λ b. simp (c.walk.ensures.0, c.iso_in_every.ensures, c.load_globals-g.ensures),
  (c.walk.ensures.1.0, c.walk.ensures.1.1),
)
