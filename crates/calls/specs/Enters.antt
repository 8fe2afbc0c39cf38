-- A call after EP0's start that only rows 3 and 4 stop
use Rattle.std.specs.Prelude.{◌≡◌, List, ℕ}
use Rattle.state.specs.Driver.{none_gathered}
use Rattle.state.specs.State.{view, saved}
use Rattle.machine.specs.Suspended.{decode}
use Rattle.machine.specs.Rows.{is_idle, stop_of}

-- r is the row that stops it, or 0; xs before, ys after
pub record Enters (r : ℕ) (xs ys : List ℕ) : Type 0 where
  pub row : r ≡ stop_of (is_idle (decode (saved xs))) 2 (view xs).globals.stage
  pub passed : r ≡ 0 → view ys ≡ none_gathered (view xs)
  pub stopped : (r ≡ 0 → ⊥) → ys ≡ xs
