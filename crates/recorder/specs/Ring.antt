-- Packets in a ring of four lent blocks: block k lies at k % 4.
use Rattle.std.specs.Prelude.{cond, List, [], ◌∷◌, ◌++◌, ℕ, zero, suc, ◌-◌, ◌*◌, ◌/◌, ◌%◌, ltb, length, take, drop, replicate}
use Rattle.card.specs.Packet.{Packet, packet_of}
use Rattle.card.specs.declared.writer.Writer.{Writer}
use Rattle.card.specs.Writing.{writer_of, whole_of, block_of_piece, last_of}

-- the slot of block k, and the room with other bytes in it
abbrev pub slot_in : List ℕ → ℕ → List ℕ
slot_in room k = take 512 (drop (k % 4 * 512) room)

unfoldable pub put_in : List ℕ → ℕ → List ℕ → List ℕ
put_in room k b = take (k % 4 * 512) room ++ (b ++ drop 512 (drop (k % 4 * 512) room))

pub record Ring : Type 0 where
  pub writer : Writer
  pub room : List ℕ

abbrev pub ring_of : Writer → List ℕ → Ring
ring_of w room = record { writer = w; room = room }

-- a piece of a packet, in the writer's block
unfoldable pub piece_ring : Packet → Ring → Ring
piece_ring p g = record {
  writer = writer_of g.writer (length p.bytes);
  room = put_in g.room g.writer.number (block_of_piece g.writer p (slot_in g.room g.writer.number));
}

-- a packet, in at most n pieces
unfoldable pub packet_ring : ℕ → Packet → Ring → Ring
packet_ring zero p g = g
packet_ring (suc n) p g = cond (whole_of g.writer (length p.bytes)) (piece_ring p g) (packet_ring n p (piece_ring p g))

-- a padding packet of the recorder's own fills the rest of a block in which so many bytes are used, its header counted
abbrev pub padding_of : ℕ → ℕ
padding_of used = 501 - used

abbrev pub padding : ℕ → Packet
padding used = packet_of 15 (replicate (padding_of used) 0)

-- an end record has 13 bytes on the card, and 3 bytes of filler or more go behind it in its block
unfoldable pub record_ring : Packet → Ring → Ring
record_ring p g =
    let h = packet_ring 4 p g in
    cond (ltb 488 h.writer.used) (packet_ring 4 (padding h.writer.used) h) h

-- ---- the end

abbrev pub bytes_of : ℕ → List ℕ
bytes_of x = x % 256 ∷ x / 256 % 256 ∷ x / 65536 % 256 ∷ x / 16777216 % 256 ∷ []

abbrev pub end_bytes : ℕ → ℕ → ℕ → List ℕ
end_bytes finished survey overruns = 3 ∷ finished ∷ (bytes_of survey ++ bytes_of overruns)

abbrev pub end_record : ℕ → ℕ → ℕ → Packet
end_record finished survey overruns = packet_of 15 (end_bytes finished survey overruns)

unfoldable pub filled_room : Writer → ℕ → List ℕ → List ℕ
filled_room w k room = put_in room k (last_of w (slot_in room k))

-- the room with an end record behind the packets
unfoldable pub end_room : Packet → Ring → List ℕ
end_room e g = filled_room (piece_ring e g).writer g.writer.number (piece_ring e g).room
