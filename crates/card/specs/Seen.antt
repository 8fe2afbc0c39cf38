-- What a reader has looked at already.
use Rattle.std.specs.Prelude.{ℕ, ◌+◌, ◌-◌, ◌/◌, ◌≤◌}
use Rattle.card.specs.Reading.{View, block_end, clean_to}

-- the blocks from that of place d up to block `first` are good; the header at d does not end before them
pub record Seen (v : View) (d first : ℕ) : Type 0 where
  pub low : d / 504 ≤ first
  pub high : first ≤ block_end (d + 3)
  pub good : first ≤ clean_to v (d / 504) (first - d / 504)
