use Rattle.answer.specs.Word.{read_word, word_of, access_word}
use Rattle.answer.specs.WordLaws.{says}
use Prim.Native.Nat.{ℕ}
use mathlib.Core.Path.{refl, ap, ◌∙◌}
use native.Mathlib.Omega.{arith}
use Rattle.answer.proofs.word.asks_read.Goals as goal

pub returns : goal.returns
unfolding word_of access_word
returns c =
    says _ _ _ refl (omega arith) (c.read_word.ensures ∙ ap (λ (n : ℕ). read_word n 0) c.number.ensures)
