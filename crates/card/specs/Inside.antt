-- Packets that lie whole in one good block, one behind the other.
use Rattle.std.specs.Prelude.{◌≡◌, ℕ, zero, suc, ◌+◌, ◌%◌, ◌≤◌, Some}
use Rattle.card.specs.Reading.{View, total, find}
use Rattle.card.specs.Seen.{Seen}

-- one packet more, found where it begins: m bytes behind place d; it ends n bytes behind d
pub record OneMore (v : View) (d m n : ℕ) : Type 0 where
  pub endpoint : ℕ
  pub len : ℕ
  pub next : find v (total v) (d + m) ≡ Some (record { at = d + m; endpoint = endpoint; len = len })
  pub ends : n ≡ m + (3 + len)

-- so many packets, which as many calls of next find, one behind the other in the n bytes from place d on
unfoldable pub Standing : View → ℕ → ℕ → ℕ → Type 0
Standing v d zero n = n ≡ 0
Standing v d (suc count) n = (m : ℕ) × Standing v d count m × OneMore v d m n

-- those lie in the block of d, and fit into so much room
pub record Walked (v : View) (d room count n : ℕ) : Type 0 where
  pub standing : Standing v d count n
  pub fits : n ≤ room
  pub inside : d % 504 + n ≤ 504

-- those fit into so much room, and at the place behind them no block before `first` needs a look
pub record Near (v : View) (d first room count n : ℕ) : Type 0 where
  pub standing : Standing v d count n
  pub fits : n ≤ room
  pub seen : Seen v (d + n) first
