-- What a call is: its kind, by what no other call does, and its part in a request. One table; what else is asked of
-- calls by their sort is asked of these two
use Rattle.std.specs.Prelude.{Bool, ℕ, eqb}
use Rattle.regs.specs.declared.Dir.{Dir}
use Rattle.regs.specs.declared.Dir.TheVariants.{Out, In}
use Rattle.script.specs.Calls.{Op, interrupt, slotted, other, aside, Slotted, SetEnabled, PollRead, BeginWrite}
use Rattle.script.specs.Calls.{PollWrite, PollDataOut, BeginDataIn, Other, Allocate, AllocateAll, Start, BusPoll}
use Rattle.script.specs.Calls.{BusEnable, BusDisable, Microframe, SetStalled, IsStalled, SetPaced, Advance}
use Rattle.script.specs.Calls.{BeginRead}
use Rattle.script.specs.Calls.{BeginSetup, PollSetup, PollDataIn, BeginAccept, PollAccept, BeginReject}
use Rattle.script.specs.Calls.{BeginDataOut}
use Rattle.script.specs.Calls.{BeginAcceptSetAddress}

pub data Kind : Type 0 where
  plain : Kind
  moving : Kind  -- the interrupt and advance: packets arrive, are sent and are complete
  turning : Kind  -- an endpoint is enabled or disabled
  resetting : Kind  -- the bus' poll
  giving : Kind  -- allocations
  starting : Kind  -- EP0's start
  accepting : Kind  -- an accept's poll writes the address
  reading : Kind  -- a read is begun
  receiving : Kind  -- a data_out is begun
  queueing : Kind  -- a packet is queued, or one is shown or given back
  pacing : Kind  -- an endpoint's pacing is set

-- two kinds are one
abbrev pub code_of : Kind → ℕ
code_of plain = 0
code_of moving = 1
code_of turning = 2
code_of resetting = 3
code_of giving = 4
code_of starting = 5
code_of accepting = 6
code_of reading = 7
code_of receiving = 8
code_of queueing = 9
code_of pacing = 10

abbrev pub is : Kind → Kind → Bool
is k j = eqb (code_of k) (code_of j)

-- what is polled: a read or a write, or a stage of the control pipe
pub data Poll : Type 0 where
  request : Dir → ℕ → Poll
  setup data-out data-in status : Poll

-- a call begins a stage of the control pipe after the setup packet, polls, enables or disables an endpoint, or does
-- none of these
pub data Part : Type 0 where
  apart begins : Part
  polls : Poll → Part
  turns : Dir → ℕ → Bool → Part

pub record Entry : Type 0 where
  pub kind : Kind
  pub part : Part

abbrev entry : Kind → Part → Entry
entry k p = record { kind = k; part = p }

abbrev slotted_entry : Slotted → Entry
slotted_entry (SetEnabled d e on) = entry turning (turns d e on)
slotted_entry (PollRead e n) = entry plain (polls (request Out e))
slotted_entry (BeginWrite e bs) = entry plain apart
slotted_entry (PollWrite e bs) = entry queueing (polls (request In e))
slotted_entry (PollDataOut n) = entry plain (polls data-out)
slotted_entry (BeginDataIn bs first last) = entry plain begins

abbrev other_entry : Other → Entry
other_entry (Allocate d kind address maximum interval) = entry giving apart
other_entry (AllocateAll bytes) = entry giving apart
other_entry (Start maximum) = entry starting apart
other_entry BusPoll = entry resetting apart
other_entry BusEnable = entry plain apart
other_entry BusDisable = entry plain apart
other_entry Microframe = entry plain apart
other_entry (SetStalled d e on) = entry plain apart
other_entry (IsStalled d e) = entry plain apart
other_entry (SetPaced e on) = entry pacing apart
other_entry (Advance e) = entry moving apart
other_entry (BeginRead e n) = entry reading apart
other_entry BeginSetup = entry plain apart
other_entry PollSetup = entry plain (polls setup)
other_entry PollDataIn = entry plain (polls data-in)
other_entry BeginAccept = entry plain begins
other_entry PollAccept = entry accepting (polls status)
other_entry BeginReject = entry plain apart
other_entry (BeginDataOut n first) = entry receiving begins
other_entry (BeginAcceptSetAddress a) = entry plain begins

abbrev entry_of : Op → Entry
entry_of interrupt = entry moving apart
entry_of (slotted o) = slotted_entry o
entry_of (other o) = other_entry o
entry_of (aside o) = entry queueing apart

abbrev pub kind_of : Op → Kind
kind_of o = (entry_of o).kind

abbrev pub part_of : Op → Part
part_of o = (entry_of o).part
