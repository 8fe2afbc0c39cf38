use native.Mathlib.Omega.{arith}
use mathlib.Core.Path.{sym, ◌∙◌}
use borrow.Author.Tests.{lt-ltb, le-ltb}
use Rattle.alloc.specs.Number.{number-good}
use Rattle.alloc.specs.Alloc.{numbered_of, allocate_of}
use Rattle.alloc.proofs.alloc_endpoint.Goals as goal

pub returns-then-a-maximum : goal.returns-then-a-maximum
unfolding allocate_of
returns-then-a-maximum c = simp (c.refused.ensures, lt-ltb _ _ c.if-a-maximum.true)

pub buffered-requires : goal.buffered-requires
buffered-requires c =
    let h = number-good c.args.a c.is_iso-iso.result c.args.dir c.args.address c.in-Number.e
    (sym c.find-found.ensures ∙ c.in-Number.is) in
    omega arith

pub returns-in-Nothing : goal.returns-in-Nothing
unfolding allocate_of numbered_of
returns-in-Nothing c =
    simp (
      c.refused-in-Nothing.ensures,
      le-ltb _ _ c.if-a-maximum.false,
      ← c.is_iso-iso.ensures,
      ← c.find-found.ensures,
      c.in-Nothing.is,
    )

pub returns-in-Number : goal.returns-in-Number
unfolding allocate_of numbered_of
returns-in-Number c =
    simp (
      c.buffered.ensures,
      le-ltb _ _ c.if-a-maximum.false,
      ← c.is_iso-iso.ensures,
      ← c.find-found.ensures,
      c.in-Number.is,
    )
