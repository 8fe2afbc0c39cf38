use borrow.Author.Tests.{eq-eqb, ne_eqb}
use Rattle.visits.specs.Limits.{no_distance}
use Rattle.visits.proofs.no_distance.Goals as goal

pub returns-then-x-eq0 : goal.returns-then-x-eq0
unfolding no_distance
returns-then-x-eq0 c = simp (eq-eqb _ _ c.if-x-eq0.true)

pub returns-else-x-eq0 : goal.returns-else-x-eq0
unfolding no_distance
returns-else-x-eq0 c = simp (ne_eqb _ _ c.if-x-eq0.false)
