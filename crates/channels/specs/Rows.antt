-- By which row a call is refused.
use Rattle.std.specs.Prelude.{ℕ}
use Rattle.channels.specs.declared.Refusal.{Refusal}
use Rattle.channels.specs.declared.Refusal.TheVariants.{Channels}

-- its number, as include/usbhs.h has it
abbrev pub row_of : Refusal → ℕ
row_of Channels = 20
