use Rattle.descriptor.specs.WalkLaws.{endpoint-at}
use Rattle.descriptor.proofs.gather.endpoint.Goals as goal

pub returns : goal.returns
returns c = rw (endpoint-at, c.number.ensures)
