use Rattle.std.proofs.Common.{eq-eqb, ne_eqb}
use Rattle.card.specs.Batches.{answer_by}
use Rattle.card.proofs.batches.answer.Goals as goal

pub returns-then-t : goal.returns-then-t
unfolding answer_by
returns-then-t c = simp (eq-eqb _ _ c.if-t-eq0.true, c.if-t.true)

pub returns-then-t-eq0 : goal.returns-then-t-eq0
unfolding answer_by
returns-then-t-eq0 c = simp (eq-eqb _ _ c.if-t-eq0.true, c.if-t.false)

pub returns : goal.returns
unfolding answer_by
returns c = simp (ne_eqb _ _ c.if-t-eq0.false)
