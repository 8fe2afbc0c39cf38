use Rattle.std.proofs.Common.{sym, refl, ◌∙◌, arith, length-set}
use native.Mathlib.Nat.{sub-zero}
use Rattle.ring.proofs.Laws.{copied-step, copied-one, copied_none}
use Rattle.ring.proofs.marks.copy_few.Goals as goal

pub loop-i-init : goal.loop-i-init
loop-i-init c = (refl, c.requires.n_in_bounds, c.requires.n_in_bounds_2, rw sub-zero)

pub overflow_cast-part : goal.overflow_cast-part
overflow_cast-part c = omega arith

pub bounds-packet-i : goal.bounds-packet-i
bounds-packet-i c = omega arith

pub overflow_cast-part-in-loop-i : goal.overflow_cast-part-in-loop-i
overflow_cast-part-in-loop-i c = omega arith

pub bounds-part-i : goal.bounds-part-i
bounds-part-i c = omega arith

pub overflow_add-i : goal.overflow_add-i
overflow_add-i c = omega arith

pub loop-i-smaller : goal.loop-i-smaller
loop-i-smaller c = omega arith

pub loop-i-preserved : goal.loop-i-preserved
loop-i-preserved c = (
  length-set c.loop-i.part c.loop-i.i _ ∙ c.loop-i.invariant.0,
  c.loop-i.invariant.1,
  c.loop-i.invariant.2,
  rw (copied-one c.args.packet.now c.loop-i.part c.loop-i.i) (sym (copied-step c.args.packet.now c.loop-i.part c.loop-i.i c.args.n 1 (omega arith)) ∙ c.loop-i.invariant.3),
)

pub shape_of-part : goal.shape_of-part
shape_of-part c = c.loop-i.invariant.0

pub returns : goal.returns
returns c = sym (copied_none _ _ _ _ c.loop-i-test.false) ∙ c.loop-i.invariant.3
