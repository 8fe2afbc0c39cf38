-- What the writer's calls do.
use Rattle.std.specs.Prelude.{ℕ, ◌+◌, ◌-◌, ◌%◌, ◌^◌, min, Bool, cond, not, ◌&&◌, ◌||◌, List, length, take, drop, replicate, ◌==◌, nat_lt, true, false, Result, Ok, Err}
use Rattle.std.proofs.Math.Seq.{paste}
use Rattle.card.specs.declared.writer.Writer.{Writer}
use Rattle.card.specs.declared.writer.Piece.{Piece}
use Rattle.card.specs.declared.refusal.Refusal.{Refusal}
use Rattle.card.specs.declared.refusal.Refusal.TheVariants.{Card}
use Rattle.card.specs.Packet.{Packet, packet_bytes}
use Rattle.card.specs.Written.{body, sealed}

-- at the start of a stream
abbrev pub new_writer : Writer
new_writer = record { number = 0; used = 0; first = 65535; done = 0 }

-- how much of the block is used, how much of the packet is written
abbrev pub used_of : Writer → ℕ
used_of w = min w.used 504

abbrev pub done_of : Writer → ℕ → ℕ
done_of w n = min w.done (3 + n)

-- the piece of a packet of n bytes that goes into this block
abbrev pub piece_of : Writer → ℕ → ℕ
piece_of w n = min (504 - used_of w) (3 + n - done_of w n)

-- does the first packet that begins in this block begin with this piece?
abbrev pub begins_first : Writer → ℕ → Bool
begins_first w n = done_of w n == 0 && (w.first == 65535 && nat_lt (used_of w) 504)

unfoldable pub first_of : Writer → ℕ → ℕ
first_of w n = cond (begins_first w n) (6 + used_of w) w.first

abbrev pub full_of : Writer → ℕ → Bool
full_of w n = used_of w + piece_of w n == 504

abbrev pub whole_of : Writer → ℕ → Bool
whole_of w n = done_of w n + piece_of w n == 3 + n

abbrev pub done_after : Writer → ℕ → ℕ
done_after w n = cond (whole_of w n) 0 (done_of w n + piece_of w n)

-- the writer after the piece
unfoldable pub writer_of : Writer → ℕ → Writer
writer_of w n =
    cond (full_of w n)
    (record { number = (w.number + 1) % 2 ^ 32; used = 0; first = 65535; done = done_after w n })
    (record { number = w.number; used = used_of w + piece_of w n; first = first_of w n; done = done_after w n })

-- a block with its packet data in place, closed
unfoldable pub closed : ℕ → ℕ → List ℕ → List ℕ
closed number first b = sealed (body number first (take 504 (drop 6 b)))

-- the block with the piece in it
abbrev pub piece_in : Writer → Packet → List ℕ → List ℕ
piece_in w p b = paste b (6 + used_of w) (drop (done_of w (length p.bytes)) (packet_bytes p))
    (piece_of w (length p.bytes))

unfoldable pub block_of_piece : Writer → Packet → List ℕ → List ℕ
block_of_piece w p b =
    cond (full_of w (length p.bytes)) (closed w.number (first_of w (length p.bytes)) (piece_in w p b))
    (piece_in w p b)

abbrev pub piece_wrote : Writer → Packet → Piece
piece_wrote w p = record {
  next = writer_of w (length p.bytes);
  full = full_of w (length p.bytes);
  done = whole_of w (length p.bytes);
}

-- a packet and a block that are not taken
abbrev pub unfit : Packet → List ℕ → Bool
unfit p b = not (length b == 512) || (nat_lt 1024 (length p.bytes) || (p.endpoint == 0 || nat_lt 15 p.endpoint))

unfoldable pub write_of : Writer → Packet → List ℕ → Result Piece Refusal
write_of w p b = cond (unfit p b) (Err Card) (Ok (piece_wrote w p))

unfoldable pub written_of : Writer → Packet → List ℕ → List ℕ
written_of w p b = cond (unfit p b) b (block_of_piece w p b)

-- ---- the last block, filled with zeros

-- is there a last block that is to be stored?
unfoldable pub finish_of : Writer → List ℕ → Result Bool Refusal
finish_of w b = cond (length b == 512) (cond (used_of w == 0) (Ok false) (Ok true)) (Err Card)

unfoldable pub last_of : Writer → List ℕ → List ℕ
last_of w b =
    cond (length b == 512)
    (cond (used_of w == 0) b (closed w.number w.first
    (paste b (6 + used_of w) (replicate (504 - used_of w) 0) (504 - used_of w))))
    b
