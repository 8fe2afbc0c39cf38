-- The calls make the stream of the packets, whatever the lent blocks hold.
use Rattle.std.specs.Prelude.{◌≡◌, ℕ, zero, suc, ◌+◌, ◌*◌, ◌/◌, ◌%◌, ◌<◌, List, [], ◌∷◌, ◌++◌, length, slice_index}
use Rattle.card.specs.Packet.{Packet, data_of}
use Rattle.card.specs.Kept.{first_in}
use Rattle.card.specs.Written.{blocks_from}
use Rattle.card.specs.WriterRuns.{Desk}

-- m bytes of the packets ps are written, j of them of the packet under way; the packets of pre have begun
pub record So (ps : List Packet) (d : Desk) (m j : ℕ) (pre : List Packet) : Type 0 where
  pub long : length d.block ≡ 512
  pub stored : d.stored ≡ blocks_from ps 0 (m / 504)
  pub number : d.writer.number ≡ m / 504 % 4294967296
  pub used : d.writer.used ≡ m % 504
  pub done : d.writer.done ≡ j
  pub first : d.writer.first ≡ first_in (m / 504) 0 pre
  pub held : (i : ℕ) → i < m % 504 → slice_index d.block (6 + i) ≡ slice_index (data_of ps) (m / 504 * 504 + i)

abbrev pub begun : List Packet → Packet → ℕ → List Packet
begun xs p zero = xs
begun xs p (suc j) = xs ++ (p ∷ [])
