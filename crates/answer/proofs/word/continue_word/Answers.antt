use Rattle.answer.specs.Word.{word_of}
use Rattle.answer.specs.WordLaws.{says}
use Rattle.answer.proofs.word.continue_word.Goals as goal

pub returns-in-Asks : goal.returns-in-Asks
unfolding word_of
returns-in-Asks c =
    says _ _ _ c.in-Asks.is c.continue_access_word.ensures.1 c.continue_access_word.ensures.0

pub returns-in-Ends : goal.returns-in-Ends
unfolding word_of
returns-in-Ends c =
    says _ _ _ c.in-Ends.is c.end_word.ensures.end_fits c.end_word.ensures.value

pub returns-in_default : goal.returns-in_default
returns-in_default c = c.word_of.ensures
