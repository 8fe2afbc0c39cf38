-- What a ring of four blocks holds of the packets that are written into it.
use Rattle.std.specs.Prelude.{◌≡◌, List, ℕ, ◌+◌, ◌*◌, ◌/◌, ◌%◌, ◌≤◌, ◌<◌, length, get_or}
use Rattle.card.specs.Packet.{Packet, data_of}
use Rattle.card.specs.Kept.{first_in}
use Rattle.card.specs.Written.{block_of}
use Rattle.recorder.specs.Ring.{Ring, slot_in}

-- m bytes of the packets ps are written, j of them of the packet under way; the packets of pre have begun; the blocks
-- from n on are in the ring
pub record InRing (ps : List Packet) (g : Ring) (n m j : ℕ) (pre : List Packet) : Type 0 where
  pub long : length g.room ≡ 2048
  pub number : g.writer.number ≡ m / 504 % 4294967296
  pub used : g.writer.used ≡ m % 504
  pub done : g.writer.done ≡ j
  pub first : g.writer.first ≡ first_in (m / 504) 0 pre
  pub full : (k : ℕ) → n ≤ k → k < m / 504 → slot_in g.room k ≡ block_of ps k
  pub held : (i : ℕ) → i < m % 504 → get_or (slot_in g.room (m / 504)) (6 + i) 0
      ≡ get_or (data_of ps) (m / 504 * 504 + i) 0
