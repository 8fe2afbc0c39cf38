-- A list of calls with the record of bus time is one of the driver alone, in which a call that row 19 stops is a
-- question: so what is proved of the
-- code over every list of calls without the record (Calls in proof_book/specs/FrontPage.antt) holds of it too
use Rattle.std.specs.Prelude.{Bool, List, [], ◌∷◌, ◌≡◌, ℕ}
use Rattle.state.specs.State.{view}
use Rattle.script.specs.Answers.{Answer}
use Rattle.script.specs.Calls.{Config, Op}
use Rattle.script.specs.Machine.{Buf, Event, Machine}
use Rattle.machine.specs.Suspended.{machine_of}
use Rattle.proof_book.specs.Pages.{Pages}
use Rattle.proof_book.specs.FrontPage.{BufferPreserved}
use Rattle.proof_book.specs.FrontPage as page
use Rattle.proof_contracts.specs.Steps.{made}
use Rattle.proof_contracts.specs.SharedPage.{MadeShared, noted}
use Rattle.proof_contracts.specs.SharedCall.{is_stopped, call_alone, answer_alone}

-- row 19 stops it
abbrev pub is_down : ℕ → List ℕ → Buf → MadeShared → Bool
is_down i xs a m = is_stopped i m.event.call (machine_of xs a) m.before m.event.lent

-- the call as the driver alone gets it
abbrev pub made_alone : ℕ → List ℕ → Buf → MadeShared → page.CallRecord
made_alone i xs a m = record {
  event = record { call = call_alone (is_down i xs a m) m.event.call; lent = m.event.lent };
  answer = answer_alone (is_down i xs a m) (view xs) m.answer;
  bytes = m.bytes;
  slots = m.slots;
}

abbrev pub all_alone : ℕ → List ℕ → Buf → List MadeShared → List page.CallRecord
all_alone i xs a [] = []
all_alone i xs a (m ∷ ms) = made_alone i xs a m ∷ all_alone i m.bytes m.slots ms

-- ---- every list of calls

-- the book goes the same way, and is lent the same
abbrev pub NotedAll : ℕ → List ℕ → Buf → Machine Answer Pages → List MadeShared → Type 0
NotedAll i xs a n [] = Unit {0}
NotedAll i xs a n (m ∷ ms) = ((noted i m n).1 ≡ (page.book_after (made_alone i xs a m) n).1)
    × BufferPreserved (made_alone i xs a m).event.call n a m.event.lent
    × NotedAll i m.bytes m.slots (noted i m n).1 ms

-- a start-up is not stopped by row 19
abbrev pub with_event : MadeShared → Event Config Op → MadeShared
with_event m v = made v.call v.lent m.before m.time m.answer m.bytes m.slots
