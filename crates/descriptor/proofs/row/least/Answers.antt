use borrow.Author.Tests.{eq-eqb, ne_eqb}
use Rattle.descriptor.specs.Row.{least}
use Rattle.descriptor.proofs.row.least.Goals as goal

pub returns-then-kind-eq-CONFIGURATION : goal.returns-then-kind-eq-CONFIGURATION
unfolding least
returns-then-kind-eq-CONFIGURATION c = rw (eq-eqb _ _ c.if-kind-eq-CONFIGURATION.true)

pub returns-then-kind-eq-INTERFACE : goal.returns-then-kind-eq-INTERFACE
unfolding least
returns-then-kind-eq-INTERFACE c =
    rw (ne_eqb _ _ c.if-kind-eq-CONFIGURATION.false, eq-eqb _ _ c.if-kind-eq-INTERFACE.true)

pub returns-then-kind-eq-ENDPOINT : goal.returns-then-kind-eq-ENDPOINT
unfolding least
returns-then-kind-eq-ENDPOINT c =
    rw (ne_eqb _ _ c.if-kind-eq-CONFIGURATION.false, ne_eqb _ _ c.if-kind-eq-INTERFACE.false, eq-eqb _ _ c.if-kind-eq-ENDPOINT.true)

pub returns : goal.returns
unfolding least
returns c =
    rw (ne_eqb _ _ c.if-kind-eq-CONFIGURATION.false, ne_eqb _ _ c.if-kind-eq-INTERFACE.false, ne_eqb _ _ c.if-kind-eq-ENDPOINT.false)
