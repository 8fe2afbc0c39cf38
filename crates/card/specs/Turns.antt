-- The packets found one at a time, each from where the one before ended, are those that are read.
use Rattle.std.specs.Prelude.{ℕ, ◌+◌, List, [], ◌∷◌, Option, Some, None}
use Rattle.card.specs.Packet.{Packet}
use Rattle.card.specs.declared.stream.Found.{Found}
use Rattle.card.specs.Reading.{View, total, seek_from, packet_from, read_from, in_turn}
use Rattle.card.specs.Streams.{view}

-- the packet found, and what is read behind it
unfoldable pub behind : View → Option Found → List Packet
behind v (Some f) = packet_from v f.at f.endpoint f.len ∷ read_from v (total v) (f.at + 3 + f.len)
behind v None = []

-- what the calls give from the start on
abbrev pub by_calls : List ℕ → List Packet
by_calls s = in_turn (view s) (total (view s)) (seek_from (view s) 0)
