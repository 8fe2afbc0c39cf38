-- What a ring in a buffer holds: the packets that wait, as a list. `ls` are the ring's recorded lengths.
use Rattle.std.specs.Prelude.{◌≡◌, ℕ, zero, suc, ◌+◌, ◌-◌, ◌*◌, ◌^◌, ◌<◌, ◌≤◌, false, cond, ◌≢◌, ◌⊎◌, List, [], ◌∷◌, ◌++◌, length, ◌==◌, nat_lt, slice_index}
use Rattle.state.specs.declared.EpState.{EpState}
use Rattle.ring.specs.Slot.{after, slot_of, slot_addr, count_of}

-- the `n` bytes from `at` on
unfoldable pub window : List ℕ → ℕ → ℕ → List ℕ
window b at zero = []
window b at (suc n) = slice_index b at ∷ window b (suc at) n

-- the slot of counter `i`, up to its recorded length
unfoldable pub packet : List ℕ → EpState → List ℕ → ℕ → List ℕ
packet b s ls i = window b (slot_addr s i) (slice_index ls (slot_of s i))

-- `n` packets from counter `i` on
unfoldable pub packets : List ℕ → EpState → List ℕ → ℕ → ℕ → List (List ℕ)
packets b s ls i zero = []
packets b s ls i (suc n) = packet b s ls i ∷ packets b s ls (after i 1) n

-- the bytes of the ring's slots, tail to head, each up to its recorded length
unfoldable pub waiting : List ℕ → EpState → List ℕ → List (List ℕ)
waiting b s ls = packets b s ls s.tail (count_of s)

-- a packet joins those that wait, last, where fewer than `most` do
abbrev pub join : ℕ → List (List ℕ) → List ℕ → List (List ℕ)
join most w p = cond (nat_lt (length w) most) (w ++ (p ∷ [])) w

-- slot `x` is none of those that wait
abbrev pub Away : EpState → ℕ → Type 0
Away s x = (j : ℕ) → j < count_of s → slot_of s (after s.tail j) ≢ x

-- the bytes from `lo` up to `hi` are the same
abbrev pub Same : ℕ → ℕ → List ℕ → List ℕ → Type 0
Same lo hi b b' = (k : ℕ) → lo ≤ k → k < hi → slice_index b' k ≡ slice_index b k

-- the bytes are the same but from `lo` up to `hi`
abbrev pub Only : ℕ → ℕ → List ℕ → List ℕ → Type 0
Only lo hi b b' = (k : ℕ) → (k < lo) ⊎ (hi ≤ k) → slice_index b' k ≡ slice_index b k

-- a ring of slots, a divisor of 256, that lies in a buffer of `n` bytes
pub record Placed (n : ℕ) (s : EpState) : Type 0 where
  pub part : ℕ
  pub divides : s.slots * part ≡ 256
  pub byte : s.slots < 256
  pub inside : s.base + s.slots * s.stride ≤ n
  pub low : n < 2 ^ 32

-- a ring of which at most `most` wait: all slots but the armed one for OUT, all for IN
pub record Ring (most : ℕ) (s : EpState) (ls : List ℕ) : Type 0 where
  pub whole : s.slots ≤ length ls
  pub capped : (i : ℕ) → slice_index ls i ≤ s.stride
  pub head8 : s.head < 256
  pub tail8 : s.tail < 256
  pub few : count_of s ≤ most

abbrev pub OutRing : EpState → List ℕ → Type 0
OutRing s ls = Ring (s.slots - 1) s ls

abbrev pub InRing : EpState → List ℕ → Type 0
InRing s ls = Ring s.slots s ls

-- a packet that is loaded waits
abbrev pub Sends : EpState → Type 0
Sends s = (s.loaded == 0) ≡ false → 0 < count_of s

-- a packet that is open waits
abbrev pub Shows : EpState → Type 0
Shows s = (s.«open» == 0) ≡ false → 0 < count_of s

-- two records whose ring has the same place
pub record SamePlace (s t : EpState) : Type 0 where
  pub base : t.base ≡ s.base
  pub stride : t.stride ≡ s.stride
  pub slots : t.slots ≡ s.slots

-- and the same head and tail
pub record Alike (s t : EpState) : Type 0 where
  pub place : SamePlace s t
  pub head : t.head ≡ s.head
  pub tail : t.tail ≡ s.tail
