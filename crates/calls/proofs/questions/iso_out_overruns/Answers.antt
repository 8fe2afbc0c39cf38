use Rattle.answer.specs.Questions.{overruns_of}
use Rattle.calls.proofs.questions.iso_out_overruns.Goals as goal

pub returns-then-is_on : goal.returns-then-is_on
unfolding overruns_of
returns-then-is_on c = simp (← c.is_on.ensures, c.if-is_on.true)

pub returns : goal.returns
unfolding overruns_of
returns c = simp (← c.is_on.ensures, c.if-is_on.false)
