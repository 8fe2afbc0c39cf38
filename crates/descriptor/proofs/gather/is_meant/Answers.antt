use Rattle.descriptor.specs.WalkLaws.{meant-at}
use Rattle.descriptor.proofs.gather.is_meant.Goals as goal

pub returns-then-not-is_endpoint : goal.returns-then-not-is_endpoint
returns-then-not-is_endpoint c =
    rw (meant-at, ← c.is_endpoint.ensures, c.if-not-is_endpoint.true)

pub returns-then-zeroth : goal.returns-then-zeroth
returns-then-zeroth c =
    rw (meant-at, ← c.is_endpoint.ensures, c.if-not-is_endpoint.false, c.if-zeroth.true)

pub returns-else-zeroth : goal.returns-else-zeroth
returns-else-zeroth c =
    rw (meant-at, ← c.is_endpoint.ensures, c.if-not-is_endpoint.false, c.if-zeroth.false)
