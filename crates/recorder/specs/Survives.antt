-- The recorder's calls in any order, over a card that holds any older bytes, and a cut anywhere: what a caller does,
-- and the book that a reader of the calls alone would keep. SurvivesLaws.antt proves: the card's reader gives what the
-- book says, and nothing older.
use Rattle.std.specs.Prelude.{◌≡◌, Bool, true, false, cond, ◌&&◌, ◌||◌, not, List, [], ◌∷◌, ◌++◌, ℕ, suc, ◌+◌, ◌-◌, ◌/◌, ◌%◌, ◌≤◌, ◌<◌, ltb, leb, eqb, length, Result, Ok, Err}
use Rattle.card.specs.Packet.{Packet, size, data_of}
use Rattle.card.specs.Reading.{block_end}
use Rattle.card.specs.Streams.{good_block}
use Rattle.card.specs.Runs.{read_run}
use Rattle.recorder.specs.declared.recorder.Recorder.{Recorder}
use Rattle.card.specs.declared.refusal.Refusal.{Refusal}
use Rattle.recorder.specs.Ring.{slot_in, padding, end_record}
use Rattle.recorder.specs.Recording.{begin_record, begin_of, begin_room, record_of, record_room, finish_of, finish_room}
use Rattle.recorder.specs.Recording.{stored_of}
use Rattle.recorder.specs.Flush.{put_block, Store, Torn}

-- ---- the caller's side

-- a begin with the survey's number; a packet, and a finish, with the overruns so far
pub data Call : Type 0 where
  begin : ℕ → Call
  packet : Packet → ℕ → Call
  finish : ℕ → Call

-- what a call answers, and what the room holds then: its contract
abbrev pub answered : Call → Recorder → List ℕ → Result Recorder Refusal
answered (begin survey) r room = begin_of survey room
answered (packet p overruns) r room = record_of r p room
answered (finish overruns) r room = finish_of r room

abbrev pub room_after : Call → Recorder → List ℕ → List ℕ
room_after (begin survey) r room = begin_room survey room
room_after (packet p overruns) r room = record_room r p overruns room
room_after (finish overruns) r room = finish_room r overruns room

-- a refusal leaves the recorder
abbrev pub recorder_after : Result Recorder Refusal → Recorder → Recorder
recorder_after (Ok r) old = r
recorder_after (Err why) old = old

-- the recorder, the lent room, the card
pub record Held : Type 0 where
  pub recorder : Recorder
  pub room : List ℕ
  pub card : List ℕ

-- the header's USBHS_STORE_PLACE and USBHS_STORE_BLOCK
abbrev pub place_of : Recorder → ℕ
place_of r = (r.from + r.left - 1) % 4294967296

abbrev pub store_of : Held → Store
store_of h = record { place = place_of h.recorder; block = slot_in h.room (place_of h.recorder) }

abbrev pub blocks_of : List ℕ → ℕ
blocks_of card = length card / 512

-- a call; a call that is lent another room, which is not four blocks; a store of the block that is asked for, with a
-- call of stored behind it
pub data Act : Type 0 where
  call : Call → Act
  misled : Call → (room : List ℕ) → (length room ≡ 2048 → ⊥) → Act
  store : Act

-- where no block is left nothing is stored; a place behind the card's end is not stored, and stored is not called
unfoldable pub stepped : Act → Held → Held
stepped (call c) h = record {
  recorder = recorder_after (answered c h.recorder h.room) h.recorder;
  room = room_after c h.recorder h.room;
  card = h.card;
}
stepped (misled c room n) h = record {
  recorder = recorder_after (answered c h.recorder room) h.recorder;
  room = h.room;
  card = h.card;
}
stepped store h =
    cond (eqb h.recorder.left 0) (record { recorder = stored_of h.recorder; room = h.room; card = h.card })
    (cond (ltb (store_of h).place (blocks_of h.card))
    (record {
      recorder = stored_of h.recorder;
      room = h.room;
      card = put_block h.card (store_of h).place (store_of h).block;
    }) h)

unfoldable pub run : List Act → Held → Held
run [] h = h
run (a ∷ acts) h = run acts (stepped a h)

-- ---- the book

-- the block in which the end behind these packets begins, and the bytes before it there
abbrev pub last_block_of : List Packet → ℕ
last_block_of ps = length (data_of ps) / 504

abbrev pub last_used : List Packet → ℕ
last_used ps = length (data_of ps) % 504

-- with padding, which fills the block; it is needed where an end record and three bytes of filler have no place
abbrev pub filled_up : List Packet → List Packet
filled_up ps = ps ++ (padding (last_used ps) ∷ [])

unfoldable pub padded : List Packet → List Packet
padded ps = cond (ltb 488 (last_used ps)) (filled_up ps) ps

-- Has a survey begun? Is a begin's block to be stored? The survey's number; the packets that are stored for good, and
-- the end record behind them; all packets written, and the end record that goes behind them; how many blocks are to be
-- stored.
pub record Book : Type 0 where
  pub begun : Bool
  pub fresh : Bool
  pub survey : ℕ
  pub kept : List Packet
  pub end : Packet
  pub all : List Packet
  pub next : Packet
  pub left : ℕ

-- the first block that is not stored for good
abbrev pub first_left : Book → ℕ
first_left b = cond b.fresh 0 (last_block_of b.kept)

-- Where all packets reach into a later block than those stored for good, the blocks from the first that is not stored
-- for good are to be stored.
abbrev pub left_by : List Packet → List Packet → ℕ
left_by kept all = cond (eqb (last_block_of all) (last_block_of kept)) 0 (suc (last_block_of all - last_block_of kept))

unfoldable pub grown : Book → List Packet → Packet → Book
grown b ps e = record {
  begun = b.begun;
  fresh = b.fresh;
  survey = b.survey;
  kept = b.kept;
  end = b.end;
  all = ps;
  next = e;
  left = left_by b.kept ps;
}

-- blocks are left to be stored, or the packet is not one that may be written
abbrev pub turned : Book → Packet → Bool
turned b p = not (eqb b.left 0) || (ltb 1024 (length p.bytes) || (eqb p.endpoint 0 || ltb 15 p.endpoint))

unfoldable pub noted_call : Call → Book → Book
noted_call (begin survey) b = record {
  begun = b.begun;
  fresh = true;
  survey = survey;
  kept = b.kept;
  end = b.end;
  all = begin_record survey ∷ [];
  next = end_record 0 survey 0;
  left = 1;
}
noted_call (packet p overruns) b =
    cond (turned b p) b (grown b (padded (b.all ++ (p ∷ []))) (end_record 0 b.survey overruns))
noted_call (finish overruns) b =
    cond (not (eqb b.left 0)) b (grown b (filled_up b.all) (end_record 1 b.survey overruns))

-- one block less is left; with the last of them all packets are stored, and a survey has begun
unfoldable pub one_stored : Book → Book
one_stored b =
    cond (eqb b.left 1)
    (record {
      begun = true;
      fresh = false;
      survey = b.survey;
      kept = b.all;
      end = b.next;
      all = b.all;
      next = b.next;
      left = 0;
    })
    (record {
      begun = b.begun;
      fresh = b.fresh;
      survey = b.survey;
      kept = b.kept;
      end = b.end;
      all = b.all;
      next = b.next;
      left = b.left - 1;
    })

-- on a card of so many blocks
unfoldable pub noted : ℕ → Act → Book → Book
noted blocks (call c) b = noted_call c b
noted blocks (misled c room n) b = b
noted blocks store b = cond (eqb b.left 0) b (cond (ltb (first_left b + b.left - 1) blocks) (one_stored b) b)

unfoldable pub book : ℕ → List Act → Book → Book
book blocks [] b = b
book blocks (a ∷ acts) b = book blocks acts (noted blocks a b)

-- before the first begin
abbrev pub blank : Book
blank = record {
  begun = false;
  fresh = false;
  survey = 0;
  kept = [];
  end = end_record 0 0 0;
  all = [];
  next = end_record 0 0 0;
  left = 0;
}

-- ---- what a reader gives

-- those of the packets from place d on that have no byte in block k
unfoldable pub outside : ℕ → ℕ → List Packet → List Packet
outside k d [] = []
outside k d (p ∷ ps) =
    cond (leb (d / 504) k && ltb k (block_end (d + size p))) (outside k (d + size p) ps) (p ∷ outside k (d + size p) ps)

-- When the power goes while a block is stored, which is then whole or not: a reader gives the packets stored for good
-- and their end, until the last of the blocks that are left; there all packets, but those that the block cuts, and
-- their end.
unfoldable pub given_at : Book → Bool → List Packet
given_at b whole =
    cond (eqb b.left 1) (cond whole b.all (outside (first_left b) 0 b.all) ++ (b.next ∷ []))
    (b.kept ++ (b.end ∷ []))

-- xs is the front of zs
abbrev pub Front : List Packet → List Packet → Type 0
Front xs zs = (ys : List Packet) × (zs ≡ xs ++ ys)

-- What is promised of a card and its book.
-- asks: the recorder asks for the stores of the book.
-- front, little: the packets stored for good are the first of all; where no store is asked for, the others are in one
-- block.
-- rests: at a cut between two stores, as soon as a survey has begun, the reader gives the packets stored for good and
-- their end.
-- cut: at a cut in a store it gives what the book says, except where a begin's own block is torn: its survey has not
-- begun.
pub record Survives (h : Held) (b : Book) : Type 0 where
  pub asks : h.recorder.left ≡ b.left
  pub front : b.fresh ≡ false → Front b.kept b.all
  pub little : b.left ≡ 0 → last_block_of b.all ≡ last_block_of b.kept
  pub rests : b.begun ≡ true → (reads : List ℕ) → 1024 ≤ length reads
      → read_run h.card reads ≡ b.kept ++ (b.end ∷ [])
  pub cut : (b.left ≡ 0 → ⊥) → (store_of h).place < blocks_of h.card → (torn : List ℕ)
      → Torn h.card (store_of h) torn
      → (whole : Bool) → good_block (put_block h.card (store_of h).place torn) (store_of h).place ≡ whole
      → (b.fresh ≡ true → whole ≡ true)
      → (reads : List ℕ) → 1024 ≤ length reads
      → read_run (put_block h.card (store_of h).place torn) reads ≡ given_at b whole

-- From a begin on, over any older card of whole blocks: a card has at most 2^32 - 4 blocks, which its numbers of 32
-- bits can tell apart.
abbrev pub AlwaysSurvives : Type 0
AlwaysSurvives = (h : Held) → length h.room ≡ 2048 → length h.card % 512 ≡ 0 → blocks_of h.card ≤ 4294967292
    → (survey : ℕ) (acts : List Act)
    → Survives (run (call (begin survey) ∷ acts) h) (book (blocks_of h.card) (call (begin survey) ∷ acts) blank)
