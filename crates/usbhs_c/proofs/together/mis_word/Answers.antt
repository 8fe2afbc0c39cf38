use mathlib.Core.Path.{refl}
use native.Mathlib.Omega.{arith}
use Rattle.answer.specs.Word.{word_of, access_word}
use Rattle.answer.specs.WordLaws.{says}
use Rattle.usbhs_c.proofs.together.mis_word.Goals as goal

pub returns : goal.returns
unfolding word_of access_word
returns c = says _ _ _ refl (omega arith) refl
