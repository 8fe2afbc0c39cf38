use Rattle.std.proofs.Common.{◌≡◌, ℕ, ◌*◌, List, drop}
use Rattle.card.specs.Register.{over}
use Rattle.card.specs.Fold.{Even, remainder_of}
use Rattle.card.proofs.crc.whole_words.Given as goal

-- the first i bytes are in the sum and the words
abbrev Walked : List ℕ → ℕ → ℕ → ℕ → Type 0
Walked bytes sum words i = Even sum × (over (remainder_of sum words) (drop i bytes) ≡ over 65535 bytes)

abbrev pub invariant-loop-four : goal.invariant-loop-four
invariant-loop-four l = Walked l.bytes l.s.sum l.s.words (l.four * 16)

abbrev pub invariant-loop-one : goal.invariant-loop-one
invariant-loop-one l = Walked l.bytes l.s.sum l.s.words (l.one * 4)
