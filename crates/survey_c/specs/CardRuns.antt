-- Packets written from C, as the header's loop does it: four numbers, a lent block, and of each call's word its bits. A
-- full block is stored and the next one lent; a packet is brought again until it is written whole.
use Rattle.std.specs.Prelude.{Bool, true, false, cond, List, [], ◌∷◌, ◌++◌, ℕ, zero, suc, ◌+◌, ◌/◌, ◌%◌, ◌^◌, eqb}
use Rattle.card.specs.Packet.{Packet, size}
use Rattle.card.specs.Writing.{new_writer, write_of, written_of, finish_of, last_of}
use Rattle.card.specs.WriterRuns.{Lends}
use Rattle.survey_c.specs.Card.{writer_in, numbers_of, wrote_word, writer_by, finished_word}

-- ---- a word's parts, as the header's macros take them

abbrev pub is_refused : ℕ → Bool
is_refused word = eqb (word % 2 ^ 4) 0

-- USBHS_BLOCK_FULL
abbrev pub block_full : ℕ → Bool
block_full word = eqb (word / 2 ^ 8 % 2) 1

-- USBHS_PACKET_WRITTEN
abbrev pub packet_written : ℕ → Bool
packet_written word = eqb (word / 2 ^ 9 % 2) 1

-- ---- the caller's side

-- the writer's numbers, the lent block and its count, the stream so far
pub record Caller : Type 0 where
  pub numbers : List ℕ
  pub block : List ℕ
  pub count : ℕ
  pub stored : List ℕ

abbrev pub stored_if : Lends → Caller → List ℕ → Bool → List ℕ → Caller
stored_if lend d numbers true b = record {
  numbers = numbers;
  block = lend (d.count + 1);
  count = d.count + 1;
  stored
      = d.stored ++ b;
}
stored_if lend d numbers false b = record { numbers = numbers; block = b; count = d.count; stored = d.stored }

-- after a call of usbhs_card_write with this packet
abbrev pub after_write : Lends → Packet → Caller → Caller
after_write lend p d =
    stored_if lend d (writer_by (write_of (writer_in d.numbers) p d.block) d.numbers)
    (block_full (wrote_word (write_of (writer_in d.numbers) p d.block)))
    (written_of (writer_in d.numbers) p d.block)

-- a packet, in at most n calls
unfoldable pub packet_calls : Lends → ℕ → Packet → Caller → Caller
packet_calls lend zero p d = d
packet_calls lend (suc n) p d =
    cond (is_refused (wrote_word (write_of (writer_in d.numbers) p d.block))) d
    (cond (packet_written (wrote_word (write_of (writer_in d.numbers) p d.block))) (after_write lend p d)
    (packet_calls lend n p (after_write lend p d)))

unfoldable pub packets_calls : Lends → List Packet → Caller → Caller
packets_calls lend [] d = d
packets_calls lend (p ∷ ps) d = packets_calls lend ps (packet_calls lend (size p) p d)

-- usbhs_card_finish
unfoldable pub last_call : Caller → List ℕ
last_call d =
    cond (is_refused (finished_word (finish_of (writer_in d.numbers) d.block))) d.stored
    (cond (block_full (finished_word (finish_of (writer_in d.numbers) d.block)))
    (d.stored ++ last_of (writer_in d.numbers) d.block) d.stored)

-- the stream that the exported calls make of these packets
unfoldable pub stream_calls : Lends → List Packet → List ℕ
stream_calls lend ps = last_call (packets_calls lend ps (record {
  numbers = numbers_of new_writer;
  block = lend 0;
  count
      = 0;
  stored = [];
}))
