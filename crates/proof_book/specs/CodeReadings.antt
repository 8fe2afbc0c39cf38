-- The same of the Rattle code: whatever calls are made, each as its contract says, an interrupt hands out at most 4,056
-- readings
use Rattle.std.specs.Prelude.{List, [], ◌∷◌, ◌≡◌, ℕ, ◌≤◌}
use Rattle.std.proofs.Common.{◌∙◌}
use Rattle.script.specs.Calls.{Config, Op}
use Rattle.script.specs.Machine.{Buf, Event}
use Rattle.machine.specs.Suspended.{machine_of}
use Rattle.proof_book.specs.FrontPage.{CallRecord, CallStep}
use Rattle.proof_book.specs.Served.{and_then}

-- calls one after the other, each as its contract says
abbrev pub Steps : List ℕ → Buf → List CallRecord → Type 0
Steps xs a [] = Unit {0}
Steps xs a (m ∷ ms) = CallStep xs a m × Steps m.bytes m.slots ms

-- the state's bytes and the slot buffer after them
abbrev pub bytes_after : List ℕ → List CallRecord → List ℕ
bytes_after xs [] = xs
bytes_after xs (m ∷ ms) = bytes_after m.bytes ms

abbrev pub slots_after : Buf → List CallRecord → Buf
slots_after a [] = a
slots_after a (m ∷ ms) = slots_after m.slots ms

-- the readings in their answers, up to the call after which no interrupt is under way
abbrev pub read_by : List CallRecord → ℕ
read_by [] = 0
read_by (m ∷ ms) = and_then (m.answer, machine_of m.bytes m.slots) (read_by ms)

abbrev pub events : List CallRecord → List (Event Config Op)
events [] = []
events (m ∷ ms) = m.event ∷ events ms
