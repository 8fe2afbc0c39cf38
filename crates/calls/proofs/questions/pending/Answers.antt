use Rattle.ring.specs.Slot.{count_of}
use Rattle.answer.specs.Questions.{pending_on}
use mathlib.Core.Path.{◌∙◌}
use Rattle.calls.specs.AskedLaws.{asked, unasked}
use Rattle.calls.proofs.questions.pending.Goals as goal

pub low-requires : goal.low-requires
low-requires c = simp (← c.is_number.ensures, c.if-is_number.true)

pub returns-then-is_number : goal.returns-then-is_number
unfolding count_of pending_on
returns-then-is_number c =
    asked _ _ c.is_number.ensures c.if-is_number.true
    (c.count.ensures ∙ rw (c.load_ep-r.ensures, c.low.ensures))

pub returns : goal.returns
unfolding pending_on
returns c = unasked _ _ c.is_number.ensures c.if-is_number.false
