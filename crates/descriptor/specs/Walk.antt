-- The walk along the descriptors from `at` in s, as the code goes. Assumes nothing.
use Rattle.std.specs.Prelude.{◌≡◌, true, List, ℕ, ◌+◌, ◌<◌, get_or}
use Rattle.descriptor.specs.Row.{is_clear}
use Rattle.descriptor.specs.RowLaws.{Here}

-- a whole descriptor stands there; of an endpoint, address bits 4-6 are clear
pub record Sound (s : List ℕ) (at : ℕ) : Type 0 where
  pub bytes : (j : ℕ) → get_or s j 0 < 256
  pub here : Here s at
  pub clear : get_or s (at + 1) 0 ≡ 5 → is_clear (get_or s (at + 2) 0) ≡ true
