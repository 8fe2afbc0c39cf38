-- By which row a call is refused.
use Rattle.std.specs.Prelude.{ℕ}
use Rattle.visits.specs.declared.Refusal.{Refusal}
use Rattle.visits.specs.declared.Refusal.TheVariants.{Distances}

-- its number, as include/usbhs.h has it
abbrev pub row_of : Refusal → ℕ
row_of Distances = 23
