use borrow.Author.Tests.{not-true, not-false}
use Rattle.script.specs.Handler.{waits_for_bulk}
use borrow.Author.Tests.{eq-eqb, ne_eqb}
use Rattle.interrupt.proofs.settle.waits_for_bulk.Goals as goal

pub returns-then-not-x : goal.returns-then-not-x
unfolding waits_for_bulk
returns-then-not-x c = simp (not-true c.args.x.busy c.if-not-x.true)

pub returns-then-endpoint-eq0 : goal.returns-then-endpoint-eq0
unfolding waits_for_bulk
returns-then-endpoint-eq0 c =
    simp (
      not-false c.args.x.busy c.if-not-x.false,
      ← c.endpoint.ensures,
      eq-eqb _ _ c.if-endpoint-eq0.true,
    )

pub returns-then-is_out : goal.returns-then-is_out
unfolding waits_for_bulk
returns-then-is_out c =
    simp (
      not-false c.args.x.busy c.if-not-x.false,
      ← c.endpoint.ensures,
      ne_eqb _ _ c.if-endpoint-eq0.false,
      ← c.is_out.ensures,
      c.if-is_out.true,
    )

pub returns-then-not-is_in : goal.returns-then-not-is_in
unfolding waits_for_bulk
returns-then-not-is_in c =
    simp (
      not-false c.args.x.busy c.if-not-x.false,
      ← c.endpoint.ensures,
      ne_eqb _ _ c.if-endpoint-eq0.false,
      ← c.is_out.ensures,
      c.if-is_out.false,
      ← c.is_in.ensures,
      c.if-not-is_in.true,
    )

pub returns : goal.returns
unfolding waits_for_bulk
returns c =
    simp (
      not-false c.args.x.busy c.if-not-x.false,
      ← c.endpoint.ensures,
      ne_eqb _ _ c.if-endpoint-eq0.false,
      ← c.is_out.ensures,
      c.if-is_out.false,
      ← c.is_in.ensures,
      c.if-not-is_in.false,
      ← c.is_on.ensures,
    )
