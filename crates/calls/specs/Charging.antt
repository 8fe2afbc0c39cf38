-- An enabling's charge at its place in the record
use Rattle.std.specs.Prelude.{List, ℕ, set}
use Rattle.script.specs.Answers.{Answer}
use Rattle.script.specs.Machine.{Ans, ended, handed, told}

-- where it is begun
abbrev pub charged_at : Ans Answer → ℕ → ℕ → List ℕ → List ℕ
charged_at (ended a) k c t = t
charged_at (handed q) k c t = set t k c
charged_at (told n) k c t = t
