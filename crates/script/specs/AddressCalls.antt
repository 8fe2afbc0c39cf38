-- What AddressCallsLaws.antt speaks of. It proves: which addresses each call writes to dev_ad: none but a bus reset's 0
-- and the one accepted
use Rattle.std.specs.Prelude.{◌≡◌, ℕ}
use Rattle.script.specs.Calls.{Op, interrupt, slotted, other, aside}
use Rattle.script.specs.Calls.{Other, Allocate, AllocateAll}
use Rattle.script.specs.Calls.{Start, BusPoll, BusEnable, BusDisable, Microframe, SetStalled, IsStalled, SetPaced}
use Rattle.script.specs.Calls.{Advance, BeginRead, BeginSetup, PollSetup, PollDataIn, BeginAccept, PollAccept}
use Rattle.script.specs.Calls.{BeginReject, BeginDataOut, BeginAcceptSetAddress}

abbrev pub Zero : ℕ → Type 0
Zero v = v ≡ 0

-- the addresses that a call may write: 0 at a bus reset, and the accepted one once its status stage is complete
-- (AddressLaws)
abbrev pub OfOther : Other → ℕ → Type 0
OfOther (Allocate d kind address maximum interval) v = ⊥
OfOther (AllocateAll bytes) v = ⊥
OfOther (Start maximum) v = ⊥
OfOther BusPoll v = Zero v
OfOther BusEnable v = ⊥
OfOther BusDisable v = ⊥
OfOther Microframe v = ⊥
OfOther (SetStalled d e on) v = ⊥
OfOther (IsStalled d e) v = ⊥
OfOther (SetPaced e on) v = ⊥
OfOther (Advance e) v = ⊥
OfOther (BeginRead e n) v = ⊥
OfOther BeginSetup v = ⊥
OfOther PollSetup v = ⊥
OfOther PollDataIn v = ⊥
OfOther BeginAccept v = ⊥
OfOther PollAccept v = Unit {0}
OfOther BeginReject v = ⊥
OfOther (BeginDataOut n first) v = ⊥
OfOther (BeginAcceptSetAddress a) v = ⊥

abbrev pub Addresses : Op → ℕ → Type 0
Addresses interrupt v = ⊥
Addresses (slotted o) v = ⊥
Addresses (other o) v = OfOther o v
Addresses (aside o) v = ⊥
