use native.Mathlib.Omega.{arith}
use Rattle.answer.specs.Word.{end_word}
use borrow.Author.Rules.{rules}
use Rattle.answer.proofs.word.end_word.Goals as goal

pub returns : goal.returns
unfolding end_word
returns c =
    record {
      value = omega arith;
      end_fits = (search rules, search rules);
    }
