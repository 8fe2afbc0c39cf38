-- As many packets at once as a room holds, one behind the other as they stand on the card: two bytes of length, the
-- endpoint, the bytes.
use Rattle.std.specs.Prelude.{◌≡◌, ℕ, zero, suc, ◌+◌, ◌-◌, Bool, true, false, cond, List, [], ◌++◌, length, drop, ◌==◌, nat_lt, Option, Some, None, Result, Ok, Err}
use Rattle.card.specs.Reading.{View, total, bytes_from, find}
use Rattle.card.specs.Streams.{view}
use Rattle.card.specs.Calls.{whole}
use Rattle.card.specs.declared.batches.Taken.{Taken}
use Rattle.card.specs.declared.reader.Batch.{Batch}
use Rattle.card.specs.declared.refusal.Refusal.{Refusal}
use Rattle.card.specs.declared.refusal.Refusal.TheVariants.{Card}

-- some packets: how many, their bytes, the place behind them, and whether the next one is too long for the room that is
-- left
pub record Several : Type 0 where
  pub count : ℕ
  pub bytes : List ℕ
  pub at : ℕ
  pub short : Bool

abbrev pub none : ℕ → Bool → Several
none d short = record { count = 0; bytes = []; at = d; short = short }

-- one packet, whose bytes on the card these are, before some
abbrev pub before : List ℕ → Several → Several
before bytes s = record { count = suc s.count; bytes = bytes ++ s.bytes; at = s.at; short = s.short }

-- those that at most n calls of next give from place d on, while the room lasts
unfoldable pub some_from : View → ℕ → ℕ → ℕ → Several
some_from v zero d room = none d false
some_from v (suc n) d room = elim (find v (total v) d) [
  | Some f ↦
      cond (nat_lt room (3 + f.len)) (none d true) (before (bytes_from v f.at (3 + f.len))
      (some_from v n (f.at + (3 + f.len)) (room - (3 + f.len))))
  | None ↦ none d false
]

-- each packet takes three bytes at least, so there are fewer of them than bytes of the room
abbrev pub some : List ℕ → ℕ → ℕ → Several
some s at room = some_from (view s) (suc room) at room

unfoldable pub answer_by : ℕ → ℕ → ℕ → Bool → Result (Option Batch) Refusal
answer_by count used at short =
    cond (count == 0) (cond short (Err Card) (Ok None))
    (Ok (Some (record { count = count; used = used; then = record { at = at } })))

abbrev pub answered : Several → Result (Option Batch) Refusal
answered s = answer_by s.count (length s.bytes) s.at s.short

-- what the reader at this place answers, and what the room holds then
unfoldable pub batch_of : List ℕ → ℕ → ℕ → Result (Option Batch) Refusal
batch_of s at room = cond (whole s) (answered (some s at room)) (Err Card)

abbrev pub front : List ℕ → List ℕ → List ℕ
front bytes room = bytes ++ drop (length bytes) room

unfoldable pub batch_room_of : List ℕ → ℕ → List ℕ → List ℕ
batch_room_of s at room = cond (whole s) (front (some s at (length room)).bytes room) room

-- the code's record of them
pub record Takes (r : Taken) (s : Several) : Type 0 where
  pub count : r.count ≡ s.count
  pub used : r.used ≡ length s.bytes
  pub at : r.at ≡ s.at
  pub short : r.short ≡ s.short
