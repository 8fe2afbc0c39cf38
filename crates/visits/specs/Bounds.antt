-- The answer. Assumes nothing.
use Rattle.std.specs.Prelude.{cond, ℕ, ◌+◌, ◌-◌, ◌/◌, Result, Ok, Err}
use Rattle.visits.specs.declared.Reached.{Reached}
use Rattle.visits.specs.declared.Bounds.{Bounds}
use Rattle.visits.specs.declared.Refusal.{Refusal}
use Rattle.visits.specs.declared.Refusal.TheVariants.{Distances}
use Rattle.visits.specs.Limits.{row23}

-- "The least is a divided by d rounded down"; "d and d in a span of a"
unfoldable pub least_of : ℕ → ℕ → Reached
least_of a d = record { arrivals = a / d; first = d; distance = d }

-- n divided by m rounded up (`above`, `below`)
unfoldable pub rounded_up : ℕ → ℕ → ℕ
rounded_up n m = (n + (m - 1)) / m

-- "the greatest b divided by c rounded up"; "1 and c in a span of b"
unfoldable pub greatest_of : ℕ → ℕ → Reached
greatest_of b c = record { arrivals = rounded_up b c; first = 1; distance = c }

unfoldable pub bounds_of : ℕ → ℕ → ℕ → ℕ → Result Bounds Refusal
bounds_of a b c d =
    cond (row23 a b c d) (Err Distances) (Ok (record { least = least_of a d; greatest = greatest_of b c }))
