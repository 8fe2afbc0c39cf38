-- The recorder from C, as the header's loop has it: six numbers, a lent room and a card, and the exported calls in any
-- order. RecorderRunsLaws.antt proves: the card's reader gives what the book of the recorder's Survives.antt says.
use Rattle.std.specs.Prelude.{◌≡◌, cond, List, [], ◌∷◌, ℕ, ◌+◌, ◌-◌, ◌*◌, ◌%◌, ◌≤◌, ltb, eqb, length, take, drop, get_or}
use Rattle.recorder.specs.Recording.{stored_of}
use Rattle.recorder.specs.Flush.{put_block}
use Rattle.recorder.specs.Survives.{begin, answered, room_after, Held, blocks_of, Act, call, misled, store, book}
use Rattle.recorder.specs.Survives.{blank, Survives}
use Rattle.survey_c.specs.Recorder.{recorder_in, recorder_numbers, recorder_by}

pub record Lent : Type 0 where
  pub numbers : List ℕ
  pub room : List ℕ
  pub card : List ℕ

-- ---- the header's macros

-- recorder[USBHS_TO_STORE]
abbrev pub to_store : List ℕ → ℕ
to_store numbers = get_or numbers 4 0

-- USBHS_STORE_PLACE
abbrev pub store_place : List ℕ → ℕ
store_place numbers = (get_or numbers 3 0 + get_or numbers 4 0 - 1) % 4294967296

-- 512 bytes from USBHS_STORE_BLOCK
abbrev pub store_block : List ℕ → List ℕ → List ℕ
store_block numbers room = take 512 (drop (store_place numbers % 4 * 512) room)

-- ---- the exported calls, by their contracts

-- usbhs_recorder_begin, usbhs_record and usbhs_recorder_finish; a store, and usbhs_recorder_stored behind it
unfoldable pub made : Act → Lent → Lent
made (call c) h = record {
  numbers = recorder_by (answered c (recorder_in h.numbers) h.room) h.numbers;
  room = room_after c (recorder_in h.numbers) h.room;
  card = h.card;
}
made (misled c room n) h = record {
  numbers = recorder_by (answered c (recorder_in h.numbers) room) h.numbers;
  room = h.room;
  card = h.card;
}
made store h =
    cond (eqb (to_store h.numbers) 0)
    (record { numbers = recorder_numbers (stored_of (recorder_in h.numbers)); room = h.room; card = h.card })
    (cond (ltb (store_place h.numbers) (blocks_of h.card))
    (record {
      numbers = recorder_numbers (stored_of (recorder_in h.numbers));
      room = h.room;
      card = put_block h.card (store_place h.numbers) (store_block h.numbers h.room);
    }) h)

unfoldable pub all_made : List Act → Lent → Lent
all_made [] h = h
all_made (a ∷ acts) h = all_made acts (made a h)

-- the numbers as a recorder
abbrev pub held : Lent → Held
held h = record { recorder = recorder_in h.numbers; room = h.room; card = h.card }

-- from a begin on, whatever the six numbers, the room and the card hold before it
abbrev pub CallsSurvive : Type 0
CallsSurvive = (h : Lent) → length h.room ≡ 2048 → length h.card % 512 ≡ 0 → blocks_of h.card ≤ 4294967292
    → (survey : ℕ) (acts : List Act)
    → Survives (held (all_made (call (begin survey) ∷ acts) h))
    (book (blocks_of h.card) (call (begin survey) ∷ acts) blank)
