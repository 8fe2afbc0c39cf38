-- What holds between a caller's recorder, room and card and the book, after each act: SurvivesLaws.antt.
use Rattle.std.specs.Prelude.{◌≡◌, true, false, List, [], ◌∷◌, ◌++◌, ℕ, suc, ◌+◌, ◌-◌, ◌%◌, ◌≤◌, ◌<◌, length}
use Rattle.card.specs.Packet.{Packet, Writable, All, data_of}
use Rattle.card.specs.Written.{block_of}
use Rattle.card.specs.Streams.{block_at}
use Rattle.recorder.specs.Ring.{Ring, slot_in}
use Rattle.recorder.specs.Recording.{ring_in}
use Rattle.recorder.specs.Filled.{InRing}
use Rattle.recorder.specs.Flush.{OnCard}
use Rattle.recorder.specs.Survives.{Held, Book, blocks_of, last_block_of, last_used, first_left, Front}

-- the packets xs are in the ring from block n on, and an end record has its place behind them
pub record Written (xs : List Packet) (g : Ring) (n : ℕ) : Type 0 where
  pub ring : InRing xs g n (length (data_of xs)) 0 xs
  pub fine : All xs
  pub fits : last_used xs ≤ 488
  pub low : n ≤ last_block_of xs
  pub high : last_block_of xs < n + 4

-- blocks are left to be stored: all of them are ready in the room, and those that are stored are on the card
pub record Flushing (h : Held) (b : Book) : Type 0 where
  pub few : b.left ≤ suc (last_block_of b.all - first_left b)
  pub short : length b.next.bytes ≡ 10
  pub fine : Writable b.next
  pub ready : (k : ℕ) → first_left b ≤ k → k ≤ last_block_of b.all
      → slot_in h.room k ≡ block_of (b.all ++ (b.next ∷ [])) k
  pub stored : (k : ℕ) → first_left b + b.left ≤ k → k ≤ last_block_of b.all
      → block_at h.card k ≡ block_of (b.all ++ (b.next ∷ [])) k
  pub inside : b.left ≤ last_block_of b.all - first_left b → last_block_of b.all < blocks_of h.card
  pub later : b.fresh ≡ false → last_block_of b.kept < last_block_of b.all
  pub once : b.fresh ≡ true → (b.left ≡ 1) × (last_block_of b.all ≡ 0)

pub record Sound (h : Held) (b : Book) : Type 0 where
  pub whole : length h.card % 512 ≡ 0
  pub small : blocks_of h.card ≤ 4294967292
  pub left : h.recorder.left ≡ b.left
  pub survey : h.recorder.survey ≡ b.survey
  pub from : h.recorder.from ≡ first_left b
  pub written : Written b.all (ring_in h.recorder h.room) (first_left b)
  pub on : b.begun ≡ true → OnCard h.card b.kept b.end
  pub idle : b.left ≡ 0 → (b.fresh ≡ false) × (last_block_of b.all ≡ last_block_of b.kept)
  pub front : b.fresh ≡ false → (b.begun ≡ true) × Front b.kept b.all
  pub flush : (b.left ≡ 0 → ⊥) → Flushing h b
