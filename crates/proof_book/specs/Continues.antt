-- The continues that an interrupt takes, in a list of calls: definitions. The theorems are in InterruptEnds and
-- CodeContinues
use Rattle.std.specs.Prelude.{cond, List, [], ◌∷◌, ℕ, ◌+◌}
use Rattle.state.specs.Driver.{Driver}
use Rattle.script.specs.Answers.{Answer}
use Rattle.script.specs.Calls.{Config, Op, calls}
use Rattle.script.specs.Machine.{Buf, Call, start, begin, continue, question, Event, Pending, idle, busy, Machine, over}
use Rattle.script.specs.Machine.{misfit}
use Rattle.machine.specs.Suspended.{driver_of, drive, machine_of}
use Rattle.proof_book.specs.FrontPage.{CallRecord}
use Rattle.proof_book.specs.Served.{serving}

-- a continue goes on with what is under way, where neither row 1, 15 nor 16 stops it
abbrev pub goes_on : ℕ → Pending Answer Driver → ℕ
goes_on v idle = 0
goes_on v (busy i a k) = cond (over calls a v) 0 1

abbrev pub continues : Call Config Op → Machine Answer Driver → Buf → ℕ
continues (start c) m b = 0
continues (begin o) m b = 0
continues (continue v) m b = cond (misfit calls driver_of m.st b) 0 (goes_on v m.under_way_lem)
continues (question q) m b = 0

-- how many of a list do, up to the call before which no interrupt is under way
unfoldable pub interrupt_continues : List (Event Config Op) → Machine Answer Driver → ℕ
interrupt_continues [] m = 0
interrupt_continues (e ∷ es) m = cond (serving m.under_way_lem) (continues e.call m e.lent
    + interrupt_continues es (drive e.call m e.lent).1) 0

-- the same of calls that were made, from the state's bytes xs and the slot buffer a on
unfoldable pub made_continues : List ℕ → Buf → List CallRecord → ℕ
made_continues xs a [] = 0
made_continues xs a (m ∷ ms) = cond (serving (machine_of xs a).under_way_lem)
    (continues m.event.call (machine_of xs a) m.event.lent + made_continues m.bytes m.slots ms) 0
