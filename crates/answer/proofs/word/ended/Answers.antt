use Rattle.answer.specs.Word.{word_of}
use Rattle.answer.specs.WordLaws.{says}
use mathlib.Core.Path.{refl}
use Rattle.answer.proofs.word.ended.Goals as goal

pub returns : goal.returns
unfolding word_of
returns c = says _ _ _ refl c.end_word.ensures.end_fits c.end_word.ensures.value
