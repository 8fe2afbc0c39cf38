-- The data CRC of USB 2.0, 8.3.5, in its words, over lists of bits.
use Rattle.std.specs.Prelude.{ℕ, zero, suc, ◌+◌, ◌*◌, ◌/◌, ◌%◌, Bool, true, false, cond, not, List, [], ◌∷◌, ◌++◌, map, ◌==◌}

abbrev pub xor : Bool → Bool → Bool
xor true b = not b
xor false b = b

abbrev pub digit : Bool → ℕ
digit true = 1
digit false = 0

-- ---- bytes as the bus carries them, the lowest bit first

-- the n lowest bits of x
unfoldable pub bits_of : ℕ → ℕ → List Bool
bits_of zero x = []
bits_of (suc n) x = (x % 2 == 1) ∷ bits_of n (x / 2)

unfoldable pub bits_of_bytes : List ℕ → List Bool
bits_of_bytes [] = []
bits_of_bytes (x ∷ xs) = bits_of 8 x ++ bits_of_bytes xs

-- the number whose bits these are
unfoldable pub number_of : List Bool → ℕ
number_of [] = 0
number_of (b ∷ bs) = digit b + number_of bs * 2

-- ---- the remainder, its high-order bit first

-- the generator polynomial, x^16 + x^15 + x^2 + 1, from x^15 on
unfoldable pub generator : List Bool
generator =
    true ∷ false ∷ false ∷ false ∷ false ∷ false ∷ false ∷ false ∷ false ∷ false ∷ false ∷ false ∷ false ∷ true ∷ false
    ∷ true ∷ []

-- the seed is all ones
unfoldable pub ones : List Bool
ones = true ∷ true ∷ true ∷ true ∷ true ∷ true ∷ true ∷ true ∷ true ∷ true ∷ true ∷ true ∷ true ∷ true ∷ true ∷ true
    ∷ []

unfoldable pub added : List Bool → List Bool → List Bool
added [] bs = []
added (a ∷ l) [] = a ∷ l
added (a ∷ l) (b ∷ bs) = xor a b ∷ added l bs

-- The high-order bit of the remainder is XORed with the data bit; the remainder is shifted left one bit, and the
-- low-order bit set to 0.
-- If the result of that XOR is 1, the remainder is XORed with the generator polynomial.
unfoldable pub stepped : List Bool → Bool → List Bool
stepped [] b = []
stepped (high ∷ low) b = cond (xor high b) (added (low ++ (false ∷ [])) generator) (low ++ (false ∷ []))

unfoldable pub remainder : List Bool → List Bool → List Bool
remainder r [] = r
remainder r (b ∷ bs) = remainder (stepped r b) bs

-- ---- the CRC: the remainder inverted, sent with its high-order bit first

unfoldable pub crc_bits : List ℕ → List Bool
crc_bits data-field = map not (remainder ones (bits_of_bytes data-field))

-- the same as a number, the first bit sent being bit 0
unfoldable pub data_crc : List ℕ → ℕ
data_crc data-field = number_of (crc_bits data-field)
