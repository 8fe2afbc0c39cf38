-- Packets written one behind the other: blocks are lent as they are, and each is stored when it is full.
use Rattle.std.specs.Prelude.{ℕ, zero, suc, ◌+◌, Bool, true, false, cond, List, [], ◌∷◌, ◌++◌, Ok, Err}
use Rattle.card.specs.Packet.{Packet, size}
use Rattle.card.specs.declared.writer.Writer.{Writer}
use Rattle.card.specs.Writing.{new_writer, write_of, written_of, finish_of, last_of}

-- the writer, the lent block and its count, the stream so far
pub record Desk : Type 0 where
  pub writer : Writer
  pub block : List ℕ
  pub count : ℕ
  pub stored : List ℕ

-- lent block k, whatever it holds
abbrev pub Lends : Type 0
Lends = ℕ → List ℕ

-- after a call that left the block so: a full block is stored and the next one lent
abbrev pub after : Lends → Desk → Writer → Bool → List ℕ → Desk
after lend d w true b = record {
  writer = w;
  block = lend (d.count + 1);
  count = d.count + 1;
  stored = d.stored
      ++ b;
}
after lend d w false b = record { writer = w; block = b; count = d.count; stored = d.stored }

-- a packet, in at most n calls
unfoldable pub packet_run : Lends → ℕ → Packet → Desk → Desk
packet_run lend zero p d = d
packet_run lend (suc n) p d = elim (write_of d.writer p d.block) [
  | Ok piece ↦
      cond piece.done (after lend d piece.next piece.full (written_of d.writer p d.block))
      (packet_run lend n p (after lend d piece.next piece.full (written_of d.writer p d.block)))
  | Err e ↦ d
]

unfoldable pub packets_run : Lends → List Packet → Desk → Desk
packets_run lend [] d = d
packets_run lend (p ∷ ps) d = packets_run lend ps (packet_run lend (size p) p d)

unfoldable pub last_run : Desk → List ℕ
last_run d = elim (finish_of d.writer d.block) [
  | Ok true ↦ d.stored ++ last_of d.writer d.block
  | Ok false ↦ d.stored
  | Err e ↦ d.stored
]

-- the stream that the calls make of these packets
unfoldable pub stream_run : Lends → List Packet → List ℕ
stream_run lend ps = last_run (packets_run lend ps (record { writer = new_writer; block = lend 0; count = 0; stored = [] }))
