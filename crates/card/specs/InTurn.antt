-- Packets that are given many at once are those that as many calls of next give, one behind the other.
use Rattle.std.specs.Prelude.{◌≡◌, ℕ, zero, suc, ◌+◌, ◌<◌, Some, None}
use Rattle.card.specs.Packet.{data_of}
use Rattle.card.specs.Reading.{View, total, find, in_turn}
use Rattle.card.specs.Batches.{Several}

-- the place behind the packets that n calls give
unfoldable pub place_after : View → ℕ → ℕ → ℕ
place_after v zero d = d
place_after v (suc n) d = elim (find v (total v) d) [
  | Some f ↦ place_after v n (f.at + 3 + f.len)
  | None ↦ d
]

-- a stream's bytes are bytes
abbrev pub Bytes : View → Type 0
Bytes v = (d : ℕ) → v.byte d < 256

-- in one statement: their bytes, and the place behind them
pub record AsCalls (v : View) (d : ℕ) (s : Several) : Type 0 where
  pub bytes : s.bytes ≡ data_of (in_turn v s.count d)
  pub at : s.at ≡ place_after v s.count d
