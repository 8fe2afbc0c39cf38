use Rattle.machine.proofs.RowsLaws.{ends-idle}
use mathlib.Core.Path.{◌∙◌}
use borrow.Author.Rules.{rules}
use Rattle.machine.proofs.halts.polled_endpoint.Goals as goal

pub enum_told-1 : goal.enum_told-1
enum_told-1 c = search rules

pub returns-in-Refused : goal.returns-in-Refused
returns-in-Refused c =
    record {
      b_value = λ u d out b i. ends-idle u d b _ i ∙ simp c.in-Refused.is;
      keeps_saved = λ xs ys h. h;
    }

pub returns-in-NotYet : goal.returns-in-NotYet
returns-in-NotYet c =
    record {
      b_value = λ u d out b i. ends-idle u d b _ i ∙ simp c.in-NotYet.is;
      keeps_saved = λ xs ys h. h;
    }

pub returns-in-Done : goal.returns-in-Done
returns-in-Done c =
    record {
      b_value = λ u d out b i. ends-idle u d b _ i ∙ simp c.in-Done.is;
      keeps_saved = λ xs ys h. h;
    }
