use Rattle.answer.specs.Word.{word_of}
use Rattle.answer.specs.WordLaws.{says}
use mathlib.Core.Path.{refl}
use Rattle.answer.proofs.word.asks.Goals as goal

pub returns : goal.returns
unfolding word_of
returns c = says _ _ _ refl c.access_word.ensures.1 c.access_word.ensures.0
