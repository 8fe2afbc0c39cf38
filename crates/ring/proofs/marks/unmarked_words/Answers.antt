use Rattle.std.proofs.Common.{◌≡◌, ◌+◌, ◌-◌, ◌*◌, sym, refl, ◌∙◌, arith}
use Rattle.ring.proofs.Laws.{found_word}
use Rattle.ring.proofs.marks.unmarked_words.Goals as goal

pub loop-i-init : goal.loop-i-init
loop-i-init c = (omega arith, c.requires, refl)

pub overflow_cast-i : goal.overflow_cast-i
overflow_cast-i c = omega arith

pub overflow_sub-i : goal.overflow_sub-i
overflow_sub-i c = omega arith

pub is_mark-is_empty-requires : goal.is_mark-is_empty-requires
is_mark-is_empty-requires c = omega arith

pub returns-then-not-is_empty : goal.returns-then-not-is_empty
returns-then-not-is_empty c = (c.loop-i.invariant.0, c.loop-i.invariant.2)

pub overflow_sub-i-in-loop-i : goal.overflow_sub-i-in-loop-i
overflow_sub-i-in-loop-i c = omega arith

pub loop-i-smaller : goal.loop-i-smaller
loop-i-smaller c = omega arith

pub loop-i-preserved : goal.loop-i-preserved
loop-i-preserved c =
    let e : (c.loop-i.i - 1) * 4 + 4 ≡ c.loop-i.i * 4 = omega arith in
    let m = sym c.is_mark-is_empty.ensures ∙ c.if-not-is_empty.false in
    (omega arith, c.loop-i.invariant.1, sym (rw e at (found_word 4 _ (c.loop-i.i - 1) (omega arith) m)) ∙ c.loop-i.invariant.2)

pub returns : goal.returns
returns c =
    let z : c.loop-i.i * 4 ≡ 0 = omega arith in
    (omega arith, rw z at c.loop-i.invariant.2)
