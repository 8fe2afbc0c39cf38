use borrow.Author.Tests.{eq-eqb, ne_eqb}
use Rattle.interrupt.proofs.codec.complete_of.Goals as goal

pub returns-then-sub-eq-SENT : goal.returns-then-sub-eq-SENT
returns-then-sub-eq-SENT c = simp (eq-eqb _ _ c.if-sub-eq-SENT.true)

pub returns-else-sub-eq-SENT : goal.returns-else-sub-eq-SENT
returns-else-sub-eq-SENT c = simp (ne_eqb _ _ c.if-sub-eq-SENT.false)
