-- The remainder without a table: what 32 zero bits make of a word is three runs of its bits, moved and added, and
-- 0xC001 if its bits are odd in number.
-- For the generator is (x + 1)(x^15 + x + 1). Nothing here need be believed: FoldLaws has it from the definition.
use Rattle.std.specs.Prelude.{◌≡◌, ℕ, ◌*◌, ◌/◌, ◌%◌, ◌^◌, ◌<◌, bit_xor}

abbrev high : ℕ → ℕ
high x = x / 2 ^ 18

abbrev middle : ℕ → ℕ
middle x = x / 2 ^ 4 % 2 ^ 14

abbrev low : ℕ → ℕ
low x = x % 2 ^ 4

abbrev pair : ℕ → ℕ
pair x = bit_xor (low x) (low x * 2) % 2 ^ 5

-- the runs of bits 18 to 31, 4 to 17 and 0 to 3; bit 16 of the sum stands for 0x4003
unfoldable pub folded : ℕ → ℕ
folded x =
    bit_xor
    (bit_xor (bit_xor (high x) (high x * 2)) (bit_xor (middle x) (middle x * 2 ^ 2)))
    (bit_xor (pair x) (pair x * 2 ^ 2) % 2 ^ 7 * 2 ^ 10)

-- such a sum as a remainder of 16 bits
unfoldable pub settled : ℕ → ℕ
settled z = bit_xor (z % 2 ^ 16) (z / 2 ^ 16 % 2 * 0x4003)

abbrev onto : ℕ → ℕ → ℕ
onto k x = bit_xor x (x / 2 ^ k)

-- 1 if the bits of x, a word of 32, are odd in number, else 0
unfoldable pub odd : ℕ → ℕ
odd x = onto 1 (onto 2 (onto 4 (onto 8 (onto 16 x)))) % 2

-- the remainder that a sum and the words so far stand for
unfoldable pub remainder_of : ℕ → ℕ → ℕ
remainder_of z words = bit_xor (settled z) (odd words * 0xC001)

-- a sum of folded words: 17 bits, even in number
pub record Even (z : ℕ) : Type 0 where
  pub short : z < 2 ^ 17
  pub even : odd z ≡ 0
