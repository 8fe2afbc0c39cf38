-- Answers that are the same but for the channel's wake-ups
use Rattle.std.specs.Prelude.{List, ℕ}
use Rattle.script.specs.Answers.{Answer, End}
use Rattle.proof_isolation.specs.EqualExcept.{SameCodes}

pub data SameAnswer (x : ℕ) : Answer → Answer → Type 0 where
  same : (a : Answer) → SameAnswer x a a
  ended : (n : ℕ) {l l' : List ℕ} → SameCodes x l l' → SameAnswer x (End n l) (End n l')
