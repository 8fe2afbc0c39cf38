-- A driver's calls with the bus time that up to four drivers share (document 02, request Seven)
use Rattle.std.specs.Prelude.{Bool, true, false, cond, ◌&&◌, List, [], ◌≡◌, ℕ, set}
use Rattle.regs.specs.declared.Access.{Access}
use Rattle.regs.specs.declared.Access.TheVariants.{Read, Write, Receive, Transmit, Ep0Dma, Wait, Callback}
use Rattle.regs.specs.declared.Reg.TheVariants.{EpConfig}
use Rattle.regs.specs.declared.Dir.{Dir}
use Rattle.state.specs.Driver.{Driver, ep_on}
use Rattle.state.specs.State.{view}
use Rattle.script.specs.Every.{same_reg}
use Rattle.script.specs.Answers.{Answer, Refused}
use Rattle.script.specs.Calls.{Config, Op, interrupt, slotted, other, aside, Slotted, SetEnabled, PollRead, BeginWrite}
use Rattle.script.specs.Calls.{PollWrite, PollDataOut, BeginDataIn, calls}
use Rattle.script.specs.Machine.{Buf, Call, start, begin, continue, question, Machine, Ans, ended, handed, told, lent_to}
use Rattle.answer.specs.declared.Step.{Step}
use Rattle.machine.specs.Suspended.{driver_of, drive, machine_of, answer_of, lent_or, BufferUnchangedOnRow1, SavedByAnswer}
use Rattle.answer.specs.Goes.{StepResult}
use Rattle.bus_time.specs.Time.{charge_of, entry_of, passes, keep_of}

-- what a call is to the bus time: an endpoint's enabling, a start-up, a continue, or none of these
pub data Sort : Type 0 where
  enabling : Dir → ℕ → Sort
  starting going apart : Sort

abbrev pub slotted_sort : Slotted → Sort
slotted_sort (SetEnabled d e on) = cond on (enabling d e) apart
slotted_sort (PollRead e n) = apart
slotted_sort (BeginWrite e bs) = apart
slotted_sort (PollWrite e bs) = apart
slotted_sort (PollDataOut n) = apart
slotted_sort (BeginDataIn bs first last) = apart

abbrev pub op_sort : Op → Sort
op_sort interrupt = apart
op_sort (slotted o) = slotted_sort o
op_sort (other o) = apart
op_sort (aside o) = apart

abbrev pub sort_of : Call Config Op → Sort
sort_of (start c) = starting
sort_of (begin o) = op_sort o
sort_of (continue v) = going
sort_of (question q) = apart

-- what an endpoint of the driver is charged
unfoldable pub charge_on : Driver → Dir → ℕ → ℕ
charge_on d dir e = charge_of (ep_on d dir e).kind (ep_on d dir e).max_len

-- an operation was begun or goes on: an access is handed out
abbrev pub is_handed : Ans Answer → Bool
is_handed (ended a) = false
is_handed (handed q) = true
is_handed (told n) = false

-- "time comes back with the write of a disabling or bus reset that clears its ep_config bit"
abbrev pub written : ℕ → Access → List ℕ → List ℕ
written i (Write r e w) t = cond (same_reg r EpConfig) (keep_of i w t) t
written i (Read r e) t = t
written i (Receive e x) t = t
written i (Transmit e x) t = t
written i (Ep0Dma x) t = t
written i (Wait n) t = t
written i Callback t = t

-- "an enable counts from its beginning", an accepted start-up gives all back as it begins
abbrev pub after_access : ℕ → Sort → Access → Driver → List ℕ → List ℕ
after_access i (enabling dir e) q d t = set t (entry_of i dir e) (charge_on d dir e)
after_access i starting q d t = keep_of i 0 t
after_access i going q d t = written i q t
after_access i apart q d t = t

-- the record after a call of driver i, whose state was d, that answered so
abbrev pub time_after : ℕ → Sort → Ans Answer → Driver → List ℕ → List ℕ
time_after i x (ended a) d t = t
time_after i x (handed q) d t = after_access i x q d t
time_after i x (told n) d t = t

-- row 19, after all others: an enabling that the driver alone would begin, and with which the time in use would pass
-- 6,000
abbrev pub turned_down : ℕ → Sort → Ans Answer → Driver → List ℕ → Bool
turned_down i (enabling dir e) a d t = is_handed a && passes t (entry_of i dir e) (charge_on d dir e)
turned_down i starting a d t = false
turned_down i going a d t = false
turned_down i apart a d t = false

unfoldable pub settled : ℕ → Sort → Machine Answer Driver → List ℕ → Buf → StepResult → StepResult × List ℕ
settled i x m t b y = cond (turned_down i x y.0 m.st t) ((ended (Refused 19), lent_to calls driver_of m b), t)
    (y, time_after i x y.0 m.st t)

-- a call of driver i: the driver's own (machine/specs/Suspended.antt), unless it is turned down, which changes nothing
abbrev pub shared_call : ℕ → Call Config Op → Machine Answer Driver → List ℕ → Buf → StepResult × List ℕ
shared_call i c m t b = settled i (sort_of c) m t b (drive c m b)

-- what a call that brings the slots and the record of bus time ensures of its answer: the state's bytes, the slots' and
-- the record's, before and after
abbrev pub SharedStep : Step → ℕ → Call Config Op → List ℕ → List ℕ → Buf → Buf → List ℕ → List ℕ → Type 0
SharedStep step i c before after slots slots' time time' =
    ((a : Buf) → (
      (answer_of step [] (view after), machine_of after (lent_or (view before) slots slots' a)),
      time',
    ) ≡ shared_call i c (machine_of before a) time slots)
    × (BufferUnchangedOnRow1 (view before) slots slots' × SavedByAnswer step before after)
