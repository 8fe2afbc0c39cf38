-- The lent list of channels.
use Rattle.std.specs.Prelude.{List, ℕ, zero, suc, get_or, set}
use Rattle.bits.specs.Bit.{bit_is_set, digit}
use Rattle.channels.specs.declared.Channel.{Channel}

-- ---- the list

-- what stands past its end
abbrev pub none : Channel
none = record { maximum = 0; charge = 0; chosen = 0 }

abbrev pub maximum : List Channel → ℕ → ℕ
maximum cs i = (get_or cs i none).maximum

abbrev pub charge : List Channel → ℕ → ℕ
charge cs i = (get_or cs i none).charge

-- A set w is a count; channel i is in it if its bit i is set, and its flag is then 1, else 0.
abbrev pub flag : ℕ → ℕ → ℕ
flag w i = digit (bit_is_set w i)

-- a channel with this flag
abbrev pub with_flag : ℕ → Channel → Channel
with_flag f c = record { maximum = c.maximum; charge = c.charge; chosen = f }

-- the list with the flags of its first n channels written
unfoldable pub flagged : List Channel → ℕ → ℕ → List Channel
flagged cs w zero = cs
flagged cs w (suc i) = set (flagged cs w i) i (with_flag (flag w i) (get_or (flagged cs w i) i none))
