use Rattle.std.proofs.Common.{sym, refl, ◌∙◌, arith}
use Rattle.ring.proofs.Laws.{found_here, found_below, found_none}
use Rattle.ring.proofs.marks.len_part.Goals as goal

pub loop-n-init : goal.loop-n-init
loop-n-init c = (omega arith, c.requires, refl)

pub overflow_sub-k : goal.overflow_sub-k
overflow_sub-k c = omega arith

pub bounds-part-k : goal.bounds-part-k
bounds-part-k c = omega arith

pub returns-then-part-k : goal.returns-then-part-k
returns-then-part-k c =
    sym (found_here _ c.loop-n.n (omega arith) (λ e. c.if-part-k.true (e ∙ sym c.mark_byte.ensures))) ∙ c.loop-n.invariant.2

pub overflow_sub-n : goal.overflow_sub-n
overflow_sub-n c = omega arith

pub skip_words-n-requires : goal.skip_words-n-requires
skip_words-n-requires c = omega arith

pub loop-n-smaller : goal.loop-n-smaller
loop-n-smaller c = omega arith

pub loop-n-preserved : goal.loop-n-preserved
loop-n-preserved c =
    let e = found_below _ c.loop-n.n (omega arith) (c.if-part-k.false ∙ c.mark_byte.ensures) in
    (omega arith, c.loop-n.invariant.1, c.skip_words-n.ensures.1 ∙ sym e ∙ c.loop-n.invariant.2)

pub returns : goal.returns
returns c = sym (found_none _ _ (omega arith)) ∙ c.loop-n.invariant.2
