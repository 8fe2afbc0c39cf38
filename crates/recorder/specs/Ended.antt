-- A stream that says where it ends. EndedLaws.antt proves: a reader gives its packets that lie wholly in good blocks,
-- whatever lies behind it.
use Rattle.std.specs.Prelude.{◌≡◌, true, List, ℕ, ◌+◌, ◌*◌, ◌/◌, ◌≤◌, ◌<◌, length, get_or}
use Rattle.card.specs.Packet.{Packet, data_of}
use Rattle.card.specs.Reading.{View}
use Rattle.card.specs.Kept.{first_in}
use Rattle.card.specs.Written.{block_of}
use Rattle.card.specs.Streams.{block_at, good_block}

-- in what a reader sees: the good blocks up to m are as written, m is good, a packet begins in it, and three bytes of
-- filler or more end it
pub record EndsIn (v : View) (ps : List Packet) (m : ℕ) : Type 0 where
  pub inside : m < v.blocks
  pub bytes : (d : ℕ) → d < (m + 1) * 504 → v.good (d / 504) ≡ true → v.byte d ≡ get_or (data_of ps) d 0
  pub names : (k : ℕ) → k ≤ m → v.good k ≡ true → v.named k ≡ first_in k 0 ps
  pub good : v.good m ≡ true
  pub begun : first_in m 0 ps ≡ 65535 → ⊥
  pub ends : length (data_of ps) + 3 ≤ (m + 1) * 504

-- the same of a card's bytes; what lies behind block m may be anything
pub record EndsInBlock (s : List ℕ) (ps : List Packet) (m : ℕ) : Type 0 where
  pub inside : m < length s / 512
  pub written : (k : ℕ) → k ≤ m → good_block s k ≡ true → block_at s k ≡ block_of ps k
  pub good : good_block s m ≡ true
  pub begun : first_in m 0 ps ≡ 65535 → ⊥
  pub ends : length (data_of ps) + 3 ≤ (m + 1) * 504
