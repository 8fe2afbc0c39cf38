use Rattle.answer.specs.Word.{write_word, word_of, access_word}
use Rattle.answer.specs.WordLaws.{says}
use Prim.Native.Nat.{ℕ}
use mathlib.Core.Path.{refl, ap, ◌∙◌}
use native.Mathlib.Omega.{arith}
use borrow.Author.Rules.{rules}
use Rattle.answer.proofs.word.asks_write.Goals as goal

pub returns : goal.returns
unfolding word_of access_word
returns c =
    says _ _ _ refl (omega arith, search rules) (c.write_word.ensures
    ∙ ap (λ (n : ℕ). write_word n 0 c.args.value) c.number.ensures)
