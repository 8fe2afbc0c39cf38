-- The readings of every call of document 01, as a table
use Rattle.std.specs.Prelude.{cond, ℕ}
use Rattle.script.specs.Calls.{Slotted, SetEnabled, PollRead, BeginWrite, PollWrite, PollDataOut, BeginDataIn}
use Rattle.script.specs.Calls.{Other, Allocate, AllocateAll, Start, BusPoll, BusEnable, BusDisable, Microframe}
use Rattle.script.specs.Calls.{SetStalled, IsStalled, SetPaced, Advance, BeginRead, BeginSetup, PollSetup}
use Rattle.script.specs.Calls.{PollDataIn, BeginAccept, PollAccept, BeginReject, BeginDataOut}
use Rattle.script.specs.Calls.{BeginAcceptSetAddress, Op, interrupt, slotted, other, aside}

abbrev pub slotted_most : Slotted → ℕ
slotted_most (SetEnabled d e on) = 0
slotted_most (PollRead e n) = 0
slotted_most (BeginWrite e bs) = 1
slotted_most (PollWrite e bs) = 0
slotted_most (PollDataOut n) = 0
slotted_most (BeginDataIn bs first last) = cond first 0 1

abbrev pub other_most : Other → ℕ
other_most (Allocate d kind address maximum interval) = 0
other_most (AllocateAll bytes) = 0
other_most (Start maximum) = 0
other_most BusPoll = 2
other_most BusEnable = 1
other_most BusDisable = 0
other_most Microframe = 1
other_most (SetStalled d e on) = cond on 1 0
other_most (IsStalled d e) = 1
other_most (SetPaced e on) = 0
other_most (Advance e) = 1
other_most (BeginRead e n) = 1
other_most BeginSetup = 0
other_most PollSetup = 0
other_most PollDataIn = 0
other_most BeginAccept = 1
other_most PollAccept = 0
other_most BeginReject = 2
other_most (BeginDataOut n first) = cond first 0 1
other_most (BeginAcceptSetAddress a) = 1

abbrev pub most : Op → ℕ
most interrupt = 4061
most (slotted o) = slotted_most o
most (other o) = other_most o
most (aside o) = 0
