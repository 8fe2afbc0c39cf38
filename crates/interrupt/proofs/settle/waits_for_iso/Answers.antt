use borrow.Author.Tests.{not-true, not-false}
use Rattle.script.specs.Handler.{waits_for_iso}
use Rattle.interrupt.proofs.settle.waits_for_iso.Goals as goal

pub returns-then-not-x : goal.returns-then-not-x
unfolding waits_for_iso
returns-then-not-x c = simp (not-true c.args.x.busy c.if-not-x.true)

pub returns-then-not-is_out : goal.returns-then-not-is_out
unfolding waits_for_iso
returns-then-not-is_out c =
    simp (
      not-false c.args.x.busy c.if-not-x.false,
      ← c.is_out.ensures,
      c.if-not-is_out.true,
    )

pub returns : goal.returns
unfolding waits_for_iso
returns c =
    simp (
      not-false c.args.x.busy c.if-not-x.false,
      ← c.is_out.ensures,
      c.if-not-is_out.false,
      ← c.is_on.ensures,
    )
