-- A record of bus time within the limit
use Rattle.std.specs.Prelude.{List, ◌≡◌, ℕ, ◌≤◌, length}
use Rattle.bus_time.specs.Time.{is_in_use}

-- a record of four drivers within the limit
pub record Within (t : List ℕ) : Type 0 where
  pub long : length t ≡ 128
  pub least : is_in_use t ≤ 6000
