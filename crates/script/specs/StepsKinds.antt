-- The calls that are told apart by what they begin: a read, a data_out, EP0's start; the others do none of it
use Rattle.std.specs.Prelude.{Bool, false, ◌≡◌, refl, ℕ}
use Rattle.script.specs.Calls.{Op, interrupt, slotted, other, aside, SetEnabled, PollRead, BeginWrite, PollWrite}
use Rattle.script.specs.Calls.{PollDataOut, BeginDataIn, Allocate, AllocateAll, Start, BusPoll, BusEnable}
use Rattle.script.specs.Calls.{BusDisable, Microframe, SetStalled, IsStalled, SetPaced, Advance, BeginRead}
use Rattle.script.specs.Calls.{BeginSetup, PollSetup, PollDataIn, BeginAccept, PollAccept, BeginReject}
use Rattle.script.specs.Calls.{BeginDataOut}
use Rattle.script.specs.Calls.{BeginAcceptSetAddress}
use Rattle.script.specs.Steps.{Kind, reading, receiving, starting, kind_of, is}

-- a kind that begins none of the three
pub record Common (k : Kind) : Type 0 where
  pub no_read : is k reading ≡ false
  pub no_data_out : is k receiving ≡ false
  pub no_start : is k starting ≡ false

pub data Begins : Op → Type 0 where
  a_read : (e n : ℕ) → Begins (other (BeginRead e n))
  a_data_out : (n : ℕ) (first : Bool) → Begins (other (BeginDataOut n first))
  ep0 : (maximum : ℕ) → Begins (other (Start maximum))
  none : (o : Op) → Common (kind_of o) → Begins o

common : (o : Op) → is (kind_of o) reading ≡ false → is (kind_of o) receiving ≡ false → is (kind_of o) starting ≡ false
    → Begins o
common o r d s = none o (record { no_read = r; no_data_out = d; no_start = s })

pub begins : (o : Op) → Begins o
begins interrupt = common interrupt refl refl refl
begins (slotted (SetEnabled d e on)) = common (slotted (SetEnabled d e on)) refl refl refl
begins (slotted (PollRead e n)) = common (slotted (PollRead e n)) refl refl refl
begins (slotted (BeginWrite e bs)) = common (slotted (BeginWrite e bs)) refl refl refl
begins (slotted (PollWrite e bs)) = common (slotted (PollWrite e bs)) refl refl refl
begins (slotted (PollDataOut n)) = common (slotted (PollDataOut n)) refl refl refl
begins (slotted (BeginDataIn bs first last)) = common (slotted (BeginDataIn bs first last)) refl refl refl
begins (other (Allocate d kind address maximum interval))
    = common (other (Allocate d kind address maximum interval)) refl refl refl
begins (other (AllocateAll bytes)) = common (other (AllocateAll bytes)) refl refl refl
begins (other (Start maximum)) = ep0 maximum
begins (other BusPoll) = common (other BusPoll) refl refl refl
begins (other BusEnable) = common (other BusEnable) refl refl refl
begins (other BusDisable) = common (other BusDisable) refl refl refl
begins (other Microframe) = common (other Microframe) refl refl refl
begins (other (SetStalled d e on)) = common (other (SetStalled d e on)) refl refl refl
begins (other (IsStalled d e)) = common (other (IsStalled d e)) refl refl refl
begins (other (SetPaced e on)) = common (other (SetPaced e on)) refl refl refl
begins (other (Advance e)) = common (other (Advance e)) refl refl refl
begins (other (BeginRead e n)) = a_read e n
begins (other BeginSetup) = common (other BeginSetup) refl refl refl
begins (other PollSetup) = common (other PollSetup) refl refl refl
begins (other PollDataIn) = common (other PollDataIn) refl refl refl
begins (other BeginAccept) = common (other BeginAccept) refl refl refl
begins (other PollAccept) = common (other PollAccept) refl refl refl
begins (other BeginReject) = common (other BeginReject) refl refl refl
begins (other (BeginDataOut n first)) = a_data_out n first
begins (other (BeginAcceptSetAddress a)) = common (other (BeginAcceptSetAddress a)) refl refl refl
begins (aside o) = common (aside o) refl refl refl
