use Rattle.std.proofs.Common.{length, sym, refl, ap, ◌∙◌, arith}
use Rattle.ring.proofs.Laws.{length_marked, length_run, run-all, run_more, run_step, run_none}
use Rattle.ring.proofs.marks.mark_words.Goals as goal

pub loop-i-init : goal.loop-i-init
loop-i-init c = (refl, c.requires, omega arith, run-all _ _)

pub overflow_cast-i : goal.overflow_cast-i
overflow_cast-i c = omega arith

pub mark_word-requires : goal.mark_word-requires
mark_word-requires c = omega arith

pub overflow_add-i : goal.overflow_add-i
overflow_add-i c = omega arith

pub loop-i-smaller : goal.loop-i-smaller
loop-i-smaller c = omega arith

pub loop-i-preserved : goal.loop-i-preserved
loop-i-preserved c =
    (ap length c.mark_word.ensures ∙ length_marked c.loop-i.part c.loop-i.i ∙ c.loop-i.invariant.0, c.loop-i.invariant.1, omega arith, rw c.mark_word.ensures (sym (run_more c.loop-i.part c.loop-i.i _ (omega arith)) ∙ c.loop-i.invariant.3))

pub loop-i-2-init : goal.loop-i-2-init
loop-i-2-init c = (refl, omega arith, omega arith, omega arith, refl)

pub overflow_cast-i-in-loop-i-2 : goal.overflow_cast-i-in-loop-i-2
overflow_cast-i-in-loop-i-2 c = omega arith

pub mark_four-requires : goal.mark_four-requires
mark_four-requires c = omega arith

pub overflow_add-i-in-loop-i-2 : goal.overflow_add-i-in-loop-i-2
overflow_add-i-in-loop-i-2 c = omega arith

pub loop-i-2-smaller : goal.loop-i-2-smaller
loop-i-2-smaller c = omega arith

pub loop-i-2-preserved : goal.loop-i-2-preserved
loop-i-2-preserved c = (
  ap length c.mark_four.ensures ∙ length_run 4 c.loop-i-2.part c.loop-i-2.i ∙ c.loop-i-2.invariant.0,
  c.loop-i-2.invariant.1,
  omega arith,
  omega arith,
  rw c.mark_four.ensures (sym (run_step c.loop-i-2.part c.loop-i-2.i _ 4 (omega arith)) ∙ c.loop-i-2.invariant.4),
)

pub shape_of-part : goal.shape_of-part
shape_of-part c = c.loop-i-2.invariant.0 ∙ c.loop-i.invariant.0

pub returns : goal.returns
returns c =
    sym (run_none _ _ _ c.loop-i-2-test.false) ∙ c.loop-i-2.invariant.4 ∙ c.loop-i.invariant.3
