use Rattle.script.specs.Handler.{out_naks}
use borrow.Author.Tests.{eq-eqb, ne_eqb}
use Rattle.interrupt.proofs.nak.out_naks.Goals as goal

pub returns-then-not-is_out : goal.returns-then-not-is_out
unfolding out_naks
returns-then-not-is_out c = simp (← c.is_out.ensures, c.if-not-is_out.true)

pub returns-then-endpoint-eq0 : goal.returns-then-endpoint-eq0
unfolding out_naks
returns-then-endpoint-eq0 c =
    simp (
      ← c.tog_ok.ensures,
      ← c.endpoint.ensures,
      eq-eqb _ _ c.if-endpoint-eq0.true,
      ← c.is_out.ensures,
      c.if-not-is_out.false,
    )

pub returns : goal.returns
unfolding out_naks
returns c =
    simp (
      ← c.is_on.ensures,
      ← c.endpoint.ensures,
      ne_eqb _ _ c.if-endpoint-eq0.false,
      ← c.is_out.ensures,
      c.if-not-is_out.false,
    )
