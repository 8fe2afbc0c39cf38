use mathlib.Core.Path.{sym, ◌∙◌}
use native.Mathlib.Omega.{arith}
use borrow.Author.Tests.{le-leb, lt-leb, eq-eqb, ne_eqb}
use Rattle.descriptor.specs.Row.{is_configuration}
use Rattle.descriptor.specs.RowLaws.{whole_is, least-configuration}
use Rattle.descriptor.proofs.row.is_configuration.Goals as goal

pub returns-then-bytes-gt-MOST : goal.returns-then-bytes-gt-MOST
unfolding is_configuration
returns-then-bytes-gt-MOST c = rw (lt-leb _ _ c.if-bytes-gt-MOST.true)

pub returns-then-not-is_whole : goal.returns-then-not-is_whole
unfolding is_configuration
returns-then-not-is_whole c =
    rw (le-leb _ _ c.if-bytes-gt-MOST.false, ← c.is_whole.ensures, c.if-not-is_whole.true)

pub bounds-bytes-1 : goal.bounds-bytes-1
bounds-bytes-1 c =
    omega (arith, (whole_is _ (sym c.is_whole.ensures ∙ c.if-not-is_whole.false)).two)

pub returns-then-bytes-ne-CONFIGURATION : goal.returns-then-bytes-ne-CONFIGURATION
unfolding is_configuration
returns-then-bytes-ne-CONFIGURATION c =
    rw (
      le-leb _ _ c.if-bytes-gt-MOST.false,
      ← c.is_whole.ensures,
      c.if-not-is_whole.false,
      ne_eqb _ _ c.if-bytes-ne-CONFIGURATION.true,
    )

pub total-requires : goal.total-requires
total-requires c =
    let w = whole_is _ (sym c.is_whole.ensures ∙ c.if-not-is_whole.false) in
    let l = w.long in
    let f = w.fits in
    omega (arith, least-configuration _ c.if-bytes-ne-CONFIGURATION.false)

pub returns-then-total-bytes : goal.returns-then-total-bytes
unfolding is_configuration
returns-then-total-bytes c =
    rw (
      le-leb _ _ c.if-bytes-gt-MOST.false,
      ← c.is_whole.ensures,
      c.if-not-is_whole.false,
      eq-eqb _ _ c.if-bytes-ne-CONFIGURATION.false,
      ← c.total.ensures,
      ne_eqb _ _ c.if-total-bytes.true,
    )

pub bounds-bytes-0 : goal.bounds-bytes-0
bounds-bytes-0 c =
    omega (
      arith,
      (whole_is _ (sym c.is_whole.ensures ∙ c.if-not-is_whole.false)).two,
    )

pub is_row-requires : goal.is_row-requires
is_row-requires c =
    let w = (whole_is _ (sym c.is_whole.ensures ∙ c.if-not-is_whole.false)).fits in
    omega arith

pub returns : goal.returns
unfolding is_configuration
returns c =
    rw (
      le-leb _ _ c.if-bytes-gt-MOST.false,
      ← c.is_whole.ensures,
      c.if-not-is_whole.false,
      eq-eqb _ _ c.if-bytes-ne-CONFIGURATION.false,
      ← c.total.ensures,
      eq-eqb _ _ c.if-total-bytes.false,
      c.is_row.ensures,
      c.wide.ensures,
    )
