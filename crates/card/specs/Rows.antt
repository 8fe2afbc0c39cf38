-- The rows that the calls here are refused by.
use Rattle.std.specs.Prelude.{ℕ}
use Rattle.card.specs.declared.refusal.Refusal.{Refusal}
use Rattle.card.specs.declared.refusal.Refusal.TheVariants.{Card}

-- the row's number, as include/usbhs.h has it
abbrev pub row_of : Refusal → ℕ
row_of Card = 21
