-- Sets of channels. A set is a count: its bit i says whether channel i is in. n channels have the 2 ^ n sets from 0 on.
-- m and c say each channel's maximum and charge.
use Rattle.std.specs.Prelude.{Bool, cond, ℕ, zero, suc, ◌+◌, ◌-◌, ◌^◌, min, leb, ltb}
use Rattle.bits.specs.Bit.{bit_is_set, both}
use Rattle.channels.specs.declared.sets.Found.{Found}
use Rattle.channels.specs.declared.Choice.{Choice}

-- a channel's number counts if channel i is in the set w
abbrev pub part_of : ℕ → ℕ → ℕ → ℕ
part_of x w i = cond (bit_is_set w i) x 0

-- the total of f over those of the first n channels that are in the set w
unfoldable pub total : (ℕ → ℕ) → ℕ → ℕ → ℕ
total f w zero = 0
total f w (suc i) = total f w i + part_of (f i) w i

-- the total of f over all of the first n channels
unfoldable pub sum : (ℕ → ℕ) → ℕ → ℕ
sum f zero = 0
sum f (suc i) = sum f i + f i

-- what is left of 6,000 byte-times, not below 0
abbrev pub room : ℕ → ℕ
room is_in_use = 6000 - is_in_use

-- the charges of a set that fits total at most the room
unfoldable pub fits : (ℕ → ℕ) → ℕ → ℕ → ℕ → Bool
fits c n left w = leb (total c w n) left

-- the best so far, b, or the set w, where w fits and its maxima total more: of equal ones the earlier stays
unfoldable pub look : (ℕ → ℕ) → (ℕ → ℕ) → ℕ → ℕ → Found → ℕ → Found
look m c n left b w = cond (both (fits c n left w) (ltb b.total (total m w n))) (record { set = w; total = total m w n }) b

-- the best among the first k sets, in counting order; it begins with the empty set, number 0, which always fits
unfoldable pub best_of : (ℕ → ℕ) → (ℕ → ℕ) → ℕ → ℕ → ℕ → Found
best_of m c n left zero = record { set = 0; total = 0 }
best_of m c n left (suc w) = look m c n left (best_of m c n left w) w

-- the number of sets looked at: the lesser of the budget and all
abbrev pub looked : ℕ → ℕ → ℕ
looked n budget = min budget (2 ^ n)

-- the figure beside the best total: this total if all sets were looked at, else the total of all maxima
unfoldable pub figure : (ℕ → ℕ) → ℕ → ℕ → ℕ → ℕ
figure m n budget best = cond (leb (2 ^ n) budget) best (sum m n)

unfoldable pub choice_of : (ℕ → ℕ) → (ℕ → ℕ) → ℕ → ℕ → ℕ → Choice
choice_of m c n is_in_use budget =
    let b = best_of m c n (room is_in_use) (looked n budget) in
    record { set = b.set; total = b.total; figure = figure m n budget b.total; looked = looked n budget }
