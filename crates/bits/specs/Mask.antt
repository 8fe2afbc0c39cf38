-- The endpoints of one 16-bit mask that another does not have. Assumes nothing.
use Rattle.std.specs.Prelude.{ℕ, ◌-◌, ◌^◌, bit_and}

-- `a & !b`
unfoldable pub except : ℕ → ℕ → ℕ
except a b = bit_and a (2 ^ 16 - 1 - b)
