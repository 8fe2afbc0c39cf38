-- A card's blocks, the stores that a recorder asks for, and a cut.
use Rattle.std.specs.Prelude.{◌≡◌, false, List, [], ◌∷◌, ◌++◌, ℕ, zero, suc, ◌+◌, ◌-◌, ◌*◌, ◌/◌, ◌%◌, ◌≤◌, ◌<◌, length, take, drop}
use Rattle.card.specs.Packet.{Packet, All, data_of}
use Rattle.card.specs.Written.{block_of}
use Rattle.card.specs.Streams.{block_at, good_block}
use Rattle.recorder.specs.Ring.{slot_in}

-- 512 bytes at a place of the card
unfoldable pub put_block : List ℕ → ℕ → List ℕ → List ℕ
put_block s place b = take (place * 512) s ++ (b ++ drop (place * 512 + 512) s)

pub record Store : Type 0 where
  pub place : ℕ
  pub block : List ℕ

-- the card after these stores, in this order
unfoldable pub after_stores : List ℕ → List Store → List ℕ
after_stores s [] = s
after_stores s (x ∷ xs) = after_stores (put_block s x.place x.block) xs

-- `left` blocks of the room from block `from` on, the last first
unfoldable pub pending : ℕ → ℕ → List ℕ → List Store
pending from zero room = []
pending from (suc left) room = record { place = from + left; block = slot_in room (from + left) } ∷ pending from left room

-- what the block that is being stored holds at a cut: the new bytes whole, or any that make no good block there
pub record Torn (s : List ℕ) (x : Store) (torn : List ℕ) : Type 0 where
  pub long : length torn ≡ 512
  pub either : (good_block (put_block s x.place torn) x.place ≡ false → ⊥) → torn ≡ x.block

-- The packets xs are on the card with the end record e behind them: every block up to the one in which the end begins
-- is as written there.
pub record OnCard (s : List ℕ) (xs : List Packet) (e : Packet) : Type 0 where
  pub whole : length s % 512 ≡ 0
  pub fine : All (xs ++ (e ∷ []))
  pub inside : length (data_of xs) / 504 < length s / 512
  pub short : length e.bytes ≡ 10
  pub fits : length (data_of xs) % 504 ≤ 488
  pub written : (k : ℕ) → k ≤ length (data_of xs) / 504 → block_at s k ≡ block_of (xs ++ (e ∷ [])) k

-- what the stores tell of that were made, with the one at the cut: of the packets before the flush until its first
-- block is stored, then of those after it
abbrev pub told : List Store → List Packet → List Packet → List Packet
told [] before after = after
told (x ∷ rest) before after = before

-- The room has blocks to be stored behind a card with the packets xs: those of the packets xs ++ ys and their end.
pub record Flushes (s : List ℕ) (xs ys : List Packet) (end : Packet) (room : List ℕ) : Type 0 where
  pub long : length room ≡ 2048
  pub fine : All ((xs ++ ys) ++ (end ∷ []))
  pub short : length end.bytes ≡ 10
  pub fits : length (data_of (xs ++ ys)) % 504 ≤ 488
  pub later : length (data_of xs) / 504 < length (data_of (xs ++ ys)) / 504
  pub inside : length (data_of (xs ++ ys)) / 504 < length s / 512
  pub ready : (k : ℕ) → length (data_of xs) / 504 ≤ k → k ≤ length (data_of (xs ++ ys)) / 504
      → slot_in room k ≡ block_of ((xs ++ ys) ++ (end ∷ [])) k

-- those stores
abbrev pub flush_stores : List Packet → List Packet → List ℕ → List Store
flush_stores xs ys room = pending (length (data_of xs) / 504)
    (suc (length (data_of (xs ++ ys)) / 504 - length (data_of xs) / 504)) room
