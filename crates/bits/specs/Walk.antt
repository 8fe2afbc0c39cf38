-- The walk over a 16-bit mask, lowest bit first: the list of the set bits, its first and the mask of the others.
-- WalkLaws.antt proves: it has exactly the set bits, each once, rising. Assumes nothing.
use Rattle.std.specs.Prelude.{ℕ, zero, suc, ◌/◌, ◌%◌, false, List, [], ◌∷◌}
use Rattle.std.specs.Int.Count.{count_trailing_zeros}
use Rattle.bits.specs.Bit.{with_bit}

abbrev pub cons_if : ℕ → ℕ → List ℕ → List ℕ
cons_if zero i l = l
cons_if (suc d) i l = i ∷ l

-- the places of the set bits among the k lowest of m, lowest first, counted from i
unfoldable pub bits_from : ℕ → ℕ → ℕ → List ℕ
bits_from zero i m = []
bits_from (suc k) i m = cons_if (m % 2) i (bits_from k (suc i) (m / 2))

-- the endpoints of a mask, lowest first
abbrev pub set_bits : ℕ → List ℕ
set_bits m = bits_from 16 0 m

-- the lowest of them: how many clear bits stand below it, and 16 where no bit is set
abbrev pub lowest : ℕ → ℕ
lowest m = count_trailing_zeros 16 m

-- the mask without it
abbrev pub rest : ℕ → ℕ
rest m = with_bit m (lowest m) false
