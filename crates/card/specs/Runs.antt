-- What RunsLaws.antt speaks of. It proves: the reader's calls in turn, with one lent room, give exactly the written
-- packets that lie wholly in good blocks.
use Rattle.std.specs.Prelude.{ℕ, zero, suc, List, [], ◌∷◌, length, take, Some, None, Ok, Err}
use Rattle.card.specs.Packet.{Packet, packet_of}
use Rattle.card.specs.Reading.{total}
use Rattle.card.specs.Streams.{view}
use Rattle.card.specs.Calls.{start_of, next_of, room_of}

-- ---- calls

-- at most n calls from this place on
unfoldable pub next_run : List ℕ → List ℕ → ℕ → ℕ → List Packet
next_run s room zero at = []
next_run s room (suc n) at = elim (next_of s at (length room)) [
  | Ok (Some p) ↦ packet_of p.endpoint (take p.len (room_of s at room)) ∷ next_run s (room_of s at room) n p.then.at
  | Ok None ↦ []
  | Err e ↦ []
]

-- a start, and calls until the end
unfoldable pub read_run : List ℕ → List ℕ → List Packet
read_run s room = elim (start_of s) [
  | Ok reader ↦ next_run s room (total (view s)) reader.at
  | Err e ↦ []
]
