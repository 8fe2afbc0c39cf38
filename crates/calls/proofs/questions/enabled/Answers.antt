use Rattle.answer.specs.Questions.{enabled_asked}
use mathlib.Core.Path.{◌∙◌}
use Rattle.calls.specs.AskedLaws.{asked, unasked}
use Rattle.calls.proofs.questions.enabled.Goals as goal

pub low-requires : goal.low-requires
low-requires c = simp (← c.is_number.ensures, c.if-is_number.true)

pub returns-then-is_number : goal.returns-then-is_number
unfolding enabled_asked
returns-then-is_number c =
    asked _ _ c.is_number.ensures c.if-is_number.true
    (c.is_on.ensures ∙ rw (c.low.ensures, c.load_globals-g.ensures))

pub returns : goal.returns
unfolding enabled_asked
returns c = unasked _ _ c.is_number.ensures c.if-is_number.false
