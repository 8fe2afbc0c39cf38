-- The recorded toggle is 0 or 1 (DECISIONS 111): of every record, EP0's and isochronous endpoints' too, in both
-- directions, whatever is under way
use Rattle.std.specs.Prelude.{◌⊎◌, ◌≡◌, ℕ}
use Rattle.regs.specs.declared.Dir.{Dir}
use Rattle.state.specs.Driver.{Driver, ep_on}

abbrev pub IsBit : ℕ → Type 0
IsBit n = (n ≡ 0) ⊎ (n ≡ 1)

pub record TogBits (d : Driver) : Type 0 where
  pub bits : (dir : Dir) (e : ℕ) → IsBit (ep_on d dir e).tog
