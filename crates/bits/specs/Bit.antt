-- A bit of a word, whether it is set, and the word with it set or cleared. BitLaws.antt proves what `|`, `&`, `!` and
-- `<<` do to them, over the width. Assumes nothing.
use Rattle.std.specs.Prelude.{ℕ, ◌+◌, ◌-◌, ◌*◌, ◌/◌, ◌%◌, ◌^◌, Bool, true, false, ◌==◌}

-- bit j of w, 0 or 1
abbrev pub bit : ℕ → ℕ → ℕ
bit w j = w / 2 ^ j % 2

-- is bit j of w set?
unfoldable pub bit_is_set : ℕ → ℕ → Bool
bit_is_set w j = bit w j == 1

-- the digit of an answer
abbrev pub digit : Bool → ℕ
digit true = 1
digit false = 0

-- w with its bit j set or cleared, and every other bit as it was
unfoldable pub with_bit : ℕ → ℕ → Bool → ℕ
with_bit w j on = w - bit w j * 2 ^ j + digit on * 2 ^ j

abbrev pub pick : {A : Type 0} → Bool → A → A → A
pick true a b = a
pick false a b = b

abbrev pub both : Bool → Bool → Bool
both true b = b
both false b = false
