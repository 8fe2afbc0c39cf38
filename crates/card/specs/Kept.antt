-- The packets that lie wholly in good blocks, and the begins that blocks name, of a list of packets that stand one
-- behind the other.
use Rattle.std.specs.Prelude.{◌≡◌, ℕ, zero, suc, ◌+◌, ◌-◌, ◌/◌, ◌%◌, ◌<◌, ◌≤◌, Bool, true, false, cond, ◌&&◌, List, [], ◌∷◌, ◌==◌, slice_index}
use Rattle.card.specs.Packet.{Packet, size, data_of}
use Rattle.card.specs.Reading.{View, total, block_end}

-- are the n blocks from k on good?
unfoldable pub all_good : View → ℕ → ℕ → Bool
all_good v k zero = true
all_good v k (suc n) = v.good k && all_good v (k + 1) n

-- do the places from d up to e lie wholly in good blocks?
abbrev pub wholly : View → ℕ → ℕ → Bool
wholly v d e = all_good v (d / 504) (block_end e - d / 504)

-- those of the packets from place d on that lie wholly in good blocks
unfoldable pub kept_from : View → ℕ → List Packet → List Packet
kept_from v d [] = []
kept_from v d (p ∷ ps) = cond (wholly v d (d + size p)) (p ∷ kept_from v (d + size p) ps) (kept_from v (d + size p) ps)

-- the offset from the block's start of the first of the packets from place d on that begins in block k; 65,535 if none
unfoldable pub first_in : ℕ → ℕ → List Packet → ℕ
first_in k d [] = 65535
first_in k d (p ∷ ps) = cond (d / 504 == k) (6 + d % 504) (first_in k (d + size p) ps)

-- each good block is one of the stream's and as it was written there: its packet data, which zeros follow, and the
-- begin that it names
pub record AsWritten (v : View) (ps : List Packet) : Type 0 where
  pub inside : (k : ℕ) → v.blocks ≤ k → v.good k ≡ false
  pub bytes : (d : ℕ) → d < total v → v.good (d / 504) ≡ true → v.byte d ≡ slice_index (data_of ps) d
  pub names : (k : ℕ) → k < v.blocks → v.good k ≡ true → v.named k ≡ first_in k 0 ps
