-- Runs of bytes in a list, and numbers as bytes, low byte first. Nothing here speaks of the driver. Assumes nothing.
use Rattle.std.specs.Prelude.{◌≡◌, ℕ, zero, suc, ◌+◌, ◌*◌, ◌/◌, ◌%◌, List, [], ◌∷◌, ◌++◌, take, drop, slice_index, slice_set}

-- the n elements from o + k: the i-th is at o + (k + i)
abbrev pub gets_from : List ℕ → ℕ → ℕ → ℕ → ℕ → List ℕ
gets_from xs o k i zero = []
gets_from xs o k i (suc n) = slice_index xs (o + (k + i)) ∷ gets_from xs o k (i + 1) n

abbrev pub gets : List ℕ → ℕ → ℕ → ℕ → List ℕ
gets xs o k n = gets_from xs o k 0 n

-- vs stored from o + k: the i-th at o + (k + i)
abbrev pub puts_from : List ℕ → ℕ → ℕ → ℕ → List ℕ → List ℕ
puts_from xs o k i [] = xs
puts_from xs o k i (v ∷ vs) = puts_from (slice_set xs (o + (k + i)) v) o k (i + 1) vs

abbrev pub puts : List ℕ → ℕ → ℕ → List ℕ → List ℕ
puts xs o k vs = puts_from xs o k 0 vs

-- the number that a run of bytes is
abbrev pub number : List ℕ → ℕ
number [] = 0
number (b ∷ bs) = b + number bs * 256

-- the w bytes of a number that fits them
abbrev pub digits : ℕ → ℕ → List ℕ
digits zero v = []
digits (suc zero) v = v ∷ []
digits (suc (suc w)) v = v % 256 ∷ digits (suc w) (v / 256)

-- a field of w bytes at o + k
abbrev pub field : List ℕ → ℕ → ℕ → ℕ → ℕ
field xs o k w = number (gets xs o k w)

-- bytes as numbers of the widths ws, one after the other; and back
abbrev pub numbers : List ℕ → List ℕ → List ℕ
numbers [] bs = []
numbers (w ∷ ws) bs = number (take w bs) ∷ numbers ws (drop w bs)

abbrev pub bytes : List ℕ → List ℕ → List ℕ
bytes [] vs = []
bytes (w ∷ ws) [] = []
bytes (w ∷ ws) (v ∷ vs) = digits w v ++ bytes ws vs

-- the widths of five bytes, and of five 16-bit numbers
abbrev pub bytes5 : List ℕ
bytes5 = 1 ∷ 1 ∷ 1 ∷ 1 ∷ 1 ∷ []

abbrev pub words5 : List ℕ
words5 = 2 ∷ 2 ∷ 2 ∷ 2 ∷ 2 ∷ []

-- two lists of numbers, equal one by one
abbrev pub Each : List ℕ → List ℕ → Type 0
Each [] [] = Unit {0}
Each [] (b ∷ ns) = ⊥
Each (a ∷ ms) [] = ⊥
Each (a ∷ ms) (b ∷ ns) = (a ≡ b) × Each ms ns
