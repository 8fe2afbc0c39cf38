use Rattle.script.specs.Handler.{same_out}
use borrow.Author.Tests.{eq-eqb, ne_eqb}
use Rattle.interrupt.proofs.settle.same_out.Goals as goal

pub returns-then-len-eq0 : goal.returns-then-len-eq0
unfolding same_out
returns-then-len-eq0 c = simp (eq-eqb _ _ c.if-len-eq0.true)

pub returns-then-not-is_out : goal.returns-then-not-is_out
unfolding same_out
returns-then-not-is_out c =
    simp (ne_eqb _ _ c.if-len-eq0.false, ← c.is_out.ensures, c.if-not-is_out.true)

pub returns : goal.returns
unfolding same_out
returns c =
    simp (
      ne_eqb _ _ c.if-len-eq0.false,
      ← c.is_out.ensures,
      c.if-not-is_out.false,
      c.endpoint.ensures,
      c.endpoint-2.ensures,
    )
