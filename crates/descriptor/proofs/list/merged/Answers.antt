use Rattle.descriptor.specs.Endpoints.{merged}
use Rattle.descriptor.proofs.list.merged.Goals as goal

pub returns : goal.returns
unfolding merged
returns c = rw (c.larger.ensures, c.lesser.ensures)
