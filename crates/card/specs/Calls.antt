-- What the reader's calls answer.
use Rattle.std.specs.Prelude.{ℕ, ◌+◌, ◌%◌, Bool, cond, List, ◌++◌, length, drop, ◌==◌, nat_lt, Option, Some, None, Result, Ok, Err}
use Rattle.card.specs.declared.stream.Found.{Found}
use Rattle.card.specs.declared.reader.Reader.{Reader}
use Rattle.card.specs.declared.reader.Packet.{Packet}
use Rattle.card.specs.declared.refusal.Refusal.{Refusal}
use Rattle.card.specs.declared.refusal.Refusal.TheVariants.{Card}
use Rattle.card.specs.Reading.{View, total, seek_from, bytes_from, find}
use Rattle.card.specs.Streams.{view}

-- is the stream whole blocks?
abbrev pub whole : List ℕ → Bool
whole s = length s % 512 == 0

unfoldable pub in_blocks : List ℕ → Result (Unit {0}) Refusal
in_blocks s = cond (whole s) (Ok tt) (Err Card)

unfoldable pub start_of : List ℕ → Result Reader Refusal
start_of s = cond (whole s) (Ok (record { at = seek_from (view s) 0 })) (Err Card)

abbrev pub found_from : List ℕ → ℕ → Option Found
found_from s at = find (view s) (total (view s)) at

-- a packet into a room of so many bytes
unfoldable pub given : Found → ℕ → Result Packet Refusal
given f room = cond (nat_lt room f.len) (Err Card)
    (Ok (record { endpoint = f.endpoint; len = f.len; then = record { at = f.at + 3 + f.len } }))

unfoldable pub put : View → Found → List ℕ → List ℕ
put v f room = cond (nat_lt (length room) f.len) room (bytes_from v (f.at + 3) f.len ++ drop f.len room)

-- the packet that is found, or the stream's end
unfoldable pub next_given : Option Found → ℕ → Result (Option Packet) Refusal
next_given (Some f) room = elim (given f room) [
  | Ok p ↦ Ok (Some p)
  | Err e ↦ Err e
]
next_given None room = Ok None

unfoldable pub next_put : View → Option Found → List ℕ → List ℕ
next_put v (Some f) room = put v f room
next_put v None room = room

-- what the reader at this place answers, and what the room holds then
unfoldable pub next_of : List ℕ → ℕ → ℕ → Result (Option Packet) Refusal
next_of s at room = cond (whole s) (next_given (found_from s at) room) (Err Card)

unfoldable pub room_of : List ℕ → ℕ → List ℕ → List ℕ
room_of s at room = cond (whole s) (next_put (view s) (found_from s at) room) room
