-- Packets on the card: a writer as four numbers, the calls' words, and what the caller's rooms hold then. A refusal
-- leaves them.
use Rattle.std.specs.Prelude.{Bool, cond, List, [], ◌∷◌, ℕ, ◌+◌, ◌%◌, get_or, Option, Some, None, Result, Ok, Err, true, false}
use Rattle.card.specs.declared.writer.Writer.{Writer}
use Rattle.card.specs.declared.writer.Piece.{Piece}
use Rattle.card.specs.declared.reader.Reader.{Reader}
use Rattle.card.specs.declared.reader.Packet.{Packet}
use Rattle.card.specs.declared.reader.Batch.{Batch}
use Rattle.card.specs.declared.refusal.Refusal.{Refusal}
use Rattle.card.specs.Rows.{row_of}
use Rattle.survey_c.specs.Words.{refused_word, end_word, done_word}

-- ---- the writer

-- number, used, first, done; the last three count modulo 65,536
unfoldable pub writer_in : List ℕ → Writer
writer_in s = record {
  number = get_or s 0 0;
  used = get_or s 1 0 % 65536;
  first = get_or s 2 0 % 65536;
  done
      = get_or s 3 0 % 65536;
}

unfoldable pub numbers_of : Writer → List ℕ
numbers_of w = w.number ∷ w.used ∷ w.first ∷ w.done ∷ []

-- bit 0: the block is to be stored; bit 1: the packet is written whole
abbrev pub result_of : Bool → Bool → ℕ
result_of full done = cond full 1 0 + cond done 2 0

abbrev pub wrote_word : Result Piece Refusal → ℕ
wrote_word (Ok p) = end_word (result_of p.full p.done)
wrote_word (Err why) = refused_word (row_of why)

abbrev pub writer_by : Result Piece Refusal → List ℕ → List ℕ
writer_by (Ok p) old = numbers_of p.next
writer_by (Err why) old = old

-- 1: the last block is to be stored; 0: there is none
abbrev pub finished_word : Result Bool Refusal → ℕ
finished_word (Ok true) = end_word 1
finished_word (Ok false) = end_word 0
finished_word (Err why) = refused_word (row_of why)

-- ---- the reader

abbrev pub started_word : Result Reader Refusal → ℕ
started_word (Ok reader) = end_word 0
started_word (Err why) = refused_word (row_of why)

abbrev pub start_by : Result Reader Refusal → ℕ → ℕ
start_by (Ok reader) old = reader.at
start_by (Err why) old = old

-- a packet is done with its length, the stream with an end
abbrev pub next_word : Result (Option Packet) Refusal → ℕ
next_word (Ok (Some p)) = done_word p.len
next_word (Ok None) = end_word 0
next_word (Err why) = refused_word (row_of why)

abbrev pub endpoint_by : Result (Option Packet) Refusal → ℕ → ℕ
endpoint_by (Ok (Some p)) old = p.endpoint
endpoint_by (Ok None) old = old
endpoint_by (Err why) old = old

abbrev pub place_by : Result (Option Packet) Refusal → ℕ → ℕ
place_by (Ok (Some p)) old = p.then.at
place_by (Ok None) old = old
place_by (Err why) old = old

-- many packets end with 1, the stream with 0
abbrev pub batch_word : Result (Option Batch) Refusal → ℕ
batch_word (Ok (Some b)) = end_word 1
batch_word (Ok None) = end_word 0
batch_word (Err why) = refused_word (row_of why)

abbrev pub count_by : Result (Option Batch) Refusal → ℕ → ℕ
count_by (Ok (Some b)) old = b.count
count_by (Ok None) old = 0
count_by (Err why) old = old

abbrev pub used_by : Result (Option Batch) Refusal → ℕ → ℕ
used_by (Ok (Some b)) old = b.used
used_by (Ok None) old = 0
used_by (Err why) old = old

abbrev pub batch_place_by : Result (Option Batch) Refusal → ℕ → ℕ
batch_place_by (Ok (Some b)) old = b.then.at
batch_place_by (Ok None) old = old
batch_place_by (Err why) old = old
