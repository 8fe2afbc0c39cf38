-- The miscellaneous status (mis_st): 0 sie_free, 1 suspend. Assumes nothing.
use Rattle.std.specs.Prelude.{Bool, ℕ}
use Rattle.bits.specs.Bit.{bit_is_set}

abbrev pub sie_free : ℕ → Bool
sie_free w = bit_is_set w 0

abbrev pub suspended : ℕ → Bool
suspended w = bit_is_set w 1
