-- Packets copied into a slot and out of one. A copy that would reach past the end of either side touches nothing.
use Rattle.std.specs.Prelude.{ℕ, zero, suc, ◌+◌, cond, List, [], ◌∷◌, ◌++◌, length, take, drop, nat_lt, slice_index, slice_set}
use Rattle.ring.specs.Marks.{short}

-- the list with its first bytes replaced by the packet
abbrev pub over : List ℕ → List ℕ → List ℕ
over packet p = packet ++ drop (length packet) p

-- the four bytes from place i on
abbrev pub four : List ℕ → ℕ → List ℕ
four p i = slice_index p i ∷ slice_index p (i + 1) ∷ slice_index p (i + 2) ∷ slice_index p (i + 3) ∷ []

-- n bytes of the packet from place i on, stored one after the other at the same places
unfoldable pub copied_run : List ℕ → List ℕ → ℕ → ℕ → List ℕ
copied_run packet p i zero = p
copied_run packet p i (suc n) = copied_run packet (slice_set p i (slice_index packet i)) (i + 1) n

-- the n bytes of the slot at offset `at`
abbrev pub bytes_at : List ℕ → ℕ → ℕ → List ℕ
bytes_at b at n = take n (drop at b)

-- the lent buffer with the packet in the slot at offset `at`
unfoldable pub copied : List ℕ → ℕ → List ℕ → List ℕ
copied b at packet = cond (short b at (length packet)) b (take at b ++ over packet (drop at b))

-- the caller's slice with n bytes of the slot at offset `at` at its front
unfoldable pub copied_out : List ℕ → ℕ → List ℕ → ℕ → List ℕ
copied_out b at out n = cond (short b at n) out (cond (nat_lt (length out) n) out (over (bytes_at b at n) out))
