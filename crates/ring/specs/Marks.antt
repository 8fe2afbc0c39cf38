-- Marks in a slot. A part is the lent buffer from a slot's start on, in words of four bytes. A call that would reach
-- past the buffer's end touches nothing, and answers that the slot is marked, or the length 0.
use Rattle.std.specs.Prelude.{ℕ, zero, suc, ◌+◌, ◌*◌, ◌/◌, ◌%◌, max, Bool, true, cond, ◌&&◌, List, [], ◌∷◌, ◌++◌, length, take, drop, ◌==◌, nat_lt, slice_index}
use Rattle.std.proofs.lemmas.List.Edits.{sets}

-- ISO_OUT_MARK, 0x5A3CA5C3, lowest byte first
abbrev pub mark : List ℕ
mark = 0xC3 ∷ 0xA5 ∷ 0x3C ∷ 0x5A ∷ []

-- how many words n bytes take: div_ceil(4)
abbrev pub words : ℕ → ℕ
words n = (n + 3) / 4

-- is byte k of word i the mark's?
abbrev pub agrees : List ℕ → ℕ → ℕ → Bool
agrees p i k = slice_index p (i * 4 + k) == slice_index mark k

-- is word i the mark?
unfoldable pub is_mark : List ℕ → ℕ → Bool
is_mark p i = agrees p i 0 && agrees p i 1 && agrees p i 2 && agrees p i 3

-- the mark's byte at place k of a part
abbrev pub mark_byte : ℕ → ℕ
mark_byte k = slice_index mark (k % 4)

-- ---- the length by the marks (request Eight; marked_len)

-- one more than the place of the last of the first n bytes that differs from the mark's byte there, or 0 if none does
unfoldable pub found : ℕ → List ℕ → ℕ
found zero p = 0
found (suc k) p = cond (slice_index p k == mark_byte k) (found k p) (suc k)

-- ---- arming (iso_out_arm)

-- word i marked
unfoldable pub marked : List ℕ → ℕ → List ℕ
marked p i = sets p (i * 4) mark

-- n words from word i on marked
unfoldable pub marked_run : List ℕ → ℕ → ℕ → List ℕ
marked_run p i zero = p
marked_run p i (suc n) = marked_run (marked p i) (i + 1) n

-- how many words arming marks: word 0 and every word up to the maximum, rounded up to whole words
abbrev pub armed_words : ℕ → ℕ
armed_words maximum = max 1 (words maximum)

-- the part armed (request Eight)
unfoldable pub arm : ℕ → List ℕ → List ℕ
arm maximum p = marked_run p 0 (armed_words maximum)

-- ---- of the slot at offset `at` of the lent buffer

-- do n bytes from `at` on reach past the buffer's end?
abbrev pub short : List ℕ → ℕ → ℕ → Bool
short b at n = nat_lt (length b) (at + n)

-- is its first word the mark? (iso_out_check: if not, a packet has arrived)
unfoldable pub is_marked : List ℕ → ℕ → Bool
is_marked b at = cond (short b at 4) true (is_mark (drop at b) 0)

-- the length of the packet in it
unfoldable pub marked_len : List ℕ → ℕ → ℕ → ℕ
marked_len b at maximum = cond (short b at maximum) 0 (found maximum (drop at b))

-- how many bytes of the slot arming marks
abbrev pub reach : ℕ → ℕ
reach maximum = armed_words maximum * 4

-- the buffer with the slot armed
unfoldable pub armed : List ℕ → ℕ → ℕ → List ℕ
armed b at maximum = cond (short b at (reach maximum)) b (take at b ++ arm maximum (drop at b))
