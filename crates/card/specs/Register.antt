-- The remainder kept as a number of 16 bits, its high-order bit being bit 0.
use Rattle.std.specs.Prelude.{ℕ, zero, suc, ◌/◌, ◌%◌, cond, List, [], ◌∷◌, ◌==◌, bit_xor}

-- one data bit, the lowest of x
unfoldable pub turned : ℕ → ℕ → ℕ
turned r x = cond (r % 2 == x % 2) (r / 2) (bit_xor (r / 2) 0xA001)

-- the n lowest bits of x
unfoldable pub turns : ℕ → ℕ → ℕ → ℕ
turns zero r x = r
turns (suc n) r x = turns n (turned r x) (x / 2)

unfoldable pub over : ℕ → List ℕ → ℕ
over r [] = r
over r (x ∷ xs) = over (turns 8 r x) xs
