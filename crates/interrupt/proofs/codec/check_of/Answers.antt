use borrow.Author.Tests.{eq-eqb, ne_eqb}
use Rattle.interrupt.proofs.codec.check_of.Goals as goal

pub returns-then-sub-eq-CHECK_ST : goal.returns-then-sub-eq-CHECK_ST
returns-then-sub-eq-CHECK_ST c = simp (eq-eqb _ _ c.if-sub-eq-CHECK_ST.true)

pub returns-else-sub-eq-CHECK_ST : goal.returns-else-sub-eq-CHECK_ST
returns-else-sub-eq-CHECK_ST c = simp (ne_eqb _ _ c.if-sub-eq-CHECK_ST.false)
