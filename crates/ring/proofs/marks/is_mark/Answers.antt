use Rattle.std.proofs.Common.{add-zero, eq-eqb, ne_eqb}
use Rattle.ring.specs.Marks.{is_mark}
use Rattle.ring.proofs.Laws.{all-four}
use Rattle.ring.proofs.marks.is_mark.Goals as goal

pub returns-then-part-a : goal.returns-then-part-a
unfolding is_mark
returns-then-part-a c = simp (add-zero, ne_eqb _ _ c.if-part-a.true)

pub returns-then-part-a-2 : goal.returns-then-part-a-2
unfolding is_mark
returns-then-part-a-2 c =
    simp (add-zero, eq-eqb _ _ c.if-part-a.false, ne_eqb _ _ c.if-part-a-2.true)

pub returns-then-part-a-ne60 : goal.returns-then-part-a-ne60
unfolding is_mark
returns-then-part-a-ne60 c =
    simp (add-zero, eq-eqb _ _ c.if-part-a.false, eq-eqb _ _ c.if-part-a-2.false, ne_eqb _ _ c.if-part-a-ne60.true)

pub returns : goal.returns
unfolding is_mark
returns c =
    rw add-zero (all-four _ (eq-eqb _ _ c.if-part-a.false) (eq-eqb _ _ c.if-part-a-2.false) (eq-eqb _ _ c.if-part-a-ne60.false))
