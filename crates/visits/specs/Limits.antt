-- Row 23: "a distance of 0 or above 16,383, or a least above its greatest". Assumes nothing.
use Rattle.std.specs.Prelude.{Bool, ◌||◌, ℕ, ◌≤◌, ltb, eqb}

unfoldable pub no_distance : ℕ → Bool
no_distance x = eqb x 0 || ltb 16383 x

unfoldable pub no_limits : ℕ → ℕ → Bool
no_limits least greatest = no_distance least || (no_distance greatest || ltb greatest least)

-- a, b between visits, c, d between arrivals
unfoldable pub row23 : ℕ → ℕ → ℕ → ℕ → Bool
row23 a b c d = no_limits a b || no_limits c d

-- what is not refused
pub record Limits (a b c d : ℕ) : Type 0 where
  pub least_visits : 1 ≤ a
  pub visits : a ≤ b
  pub greatest_visits : b ≤ 16383
  pub least_arrivals : 1 ≤ c
  pub arrivals : c ≤ d
  pub greatest_arrivals : d ≤ 16383
