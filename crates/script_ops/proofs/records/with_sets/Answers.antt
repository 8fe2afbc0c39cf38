use Rattle.script_ops.specs.Records.{with_sets}
use borrow.Author.Tests.{lt-ltb, le-ltb}
use Rattle.script_ops.proofs.records.with_sets.Goals as goal

pub returns-then-interval-lt2 : goal.returns-then-interval-lt2
unfolding with_sets
returns-then-interval-lt2 c =
    simp (
      ← c.is_iso.ensures,
      c.if-is_iso.true,
      c.in-In.is,
      c.mask_with-then-interval-lt2.ensures,
      lt-ltb _ _ c.if-interval-lt2.true,
    )

pub returns-in-Out : goal.returns-in-Out
unfolding with_sets
returns-in-Out c =
    simp (
      ← c.is_iso.ensures,
      c.if-is_iso.true,
      c.in-Out.is,
      c.mask_with.ensures,
    )

pub returns-else-interval-lt2 : goal.returns-else-interval-lt2
unfolding with_sets
returns-else-interval-lt2 c =
    simp (
      ← c.is_iso.ensures,
      c.if-is_iso.true,
      c.in-In.is,
      le-ltb _ _ c.if-interval-lt2.false,
    )

pub returns-else-is_iso : goal.returns-else-is_iso
unfolding with_sets
returns-else-is_iso c = simp (← c.is_iso.ensures, c.if-is_iso.false)
