-- Two arrays filled from the lent list of channels: what a search over arrays reads in its place. Assumes nothing.
use Rattle.std.specs.Prelude.{List, ℕ, zero, suc, get_or, set, replicate}
use Rattle.channels.specs.declared.Channel.{Channel}
use Rattle.channels.specs.Channels.{maximum, charge}

-- the maxima and the charges of up to 16 channels, zeros behind them
pub record Lists : Type 0 where
  pub maxima : List ℕ
  pub charges : List ℕ

-- number i of an array
abbrev pub listed : List ℕ → ℕ → ℕ
listed s i = get_or s i 0

abbrev pub zeros : Lists
zeros = record { maxima = replicate 16 0; charges = replicate 16 0 }

abbrev pub put_at : Lists → ℕ → ℕ → ℕ → Lists
put_at l i m c = record { maxima = set l.maxima i m; charges = set l.charges i c }

-- the first n channels read
unfoldable pub lists_of : List Channel → ℕ → Lists
lists_of cs zero = zeros
lists_of cs (suc i) = put_at (lists_of cs i) i (maximum cs i) (charge cs i)
