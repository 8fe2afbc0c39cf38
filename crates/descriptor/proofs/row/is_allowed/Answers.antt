use native.Mathlib.Omega.{arith}
use borrow.Author.Tests.{eq-eqb, ne_eqb}
use Rattle.descriptor.specs.RowLaws.{allowed_at, here}
use Rattle.descriptor.proofs.row.is_allowed.Goals as goal

pub bounds-bytes-at : goal.bounds-bytes-at
bounds-bytes-at c =
    omega (arith, (here _ _ c.requires.at_in_bounds c.requires.bytes_value).two)

pub returns-then-kind-eq-CONFIGURATION : goal.returns-then-kind-eq-CONFIGURATION
returns-then-kind-eq-CONFIGURATION c =
    rw (allowed_at, eq-eqb _ _ c.if-kind-eq-CONFIGURATION.true)

pub returns-then-not-inside : goal.returns-then-not-inside
returns-then-not-inside c =
    rw (
      allowed_at,
      ne_eqb _ _ c.if-kind-eq-CONFIGURATION.false,
      eq-eqb _ _ c.if-kind-eq-ENDPOINT.true,
      c.if-not-inside.true,
    )

pub bounds-bytes-at-then-kind-eq-ENDPOINT : goal.bounds-bytes-at-then-kind-eq-ENDPOINT
bounds-bytes-at-then-kind-eq-ENDPOINT c =
    omega (arith, (here _ _ c.requires.at_in_bounds c.requires.bytes_value).endpoint c.if-kind-eq-ENDPOINT.true)

pub returns-then-kind-eq-ENDPOINT : goal.returns-then-kind-eq-ENDPOINT
returns-then-kind-eq-ENDPOINT c =
    rw (
      allowed_at,
      ne_eqb _ _ c.if-kind-eq-CONFIGURATION.false,
      eq-eqb _ _ c.if-kind-eq-ENDPOINT.true,
      c.if-not-inside.false,
      c.is_clear.ensures,
    )

pub returns : goal.returns
returns c =
    rw (allowed_at, ne_eqb _ _ c.if-kind-eq-CONFIGURATION.false, ne_eqb _ _ c.if-kind-eq-ENDPOINT.false)
