-- What OnceLaws.antt speaks of: both runs with each call worked out once. There a start-up, a list of calls and moves
-- that pass the test (`Passes`) meet the premise of request Fourteen (`opens`)
use Rattle.std.specs.Prelude.{Bool, false, cond, ◌&&◌, List, [], ◌∷◌, ◌≡◌, ℕ}
use Rattle.std.proofs.Common.{◌∙◌}
use Rattle.script.specs.Answers.{Answer, Refused}
use Rattle.script.specs.Calls.{Config, Op, calls}
use Rattle.script.specs.Machine.{Buf, Call, continue, Event, ended}
use Rattle.script.specs.Machine.{Machine, lent_to}
use Rattle.machine.specs.Suspended.{driver_of, drive}
use Rattle.answer.specs.Goes.{StepResult}
use Rattle.calls.specs.Sharing.{sort_of, time_after}
use Rattle.proof_book.specs.Pages.{Pages}
use Rattle.proof_book.specs.MachineRuns.{Premise}
use Rattle.proof_isolation.specs.Schedule.{Run, Two, Parallel, gets_both, first_of, access_of}
use Rattle.proof_isolation.specs.Schedule.{run_by}
use Rattle.proof_isolation.specs.Schedule.{called, heeded}
use Rattle.proof_isolation.specs.Moves.{Move}

-- ---- calls of both, each lent the slot buffer as the last one left it

abbrev pub earlies : List (Call Config Op) → Run → List Parallel
earlies [] r = []
earlies (c ∷ cs) r =
    gets_both c r.machine.buf r.machine.buf ∷ earlies cs (called false 0 c r.machine.buf r)

-- what a call is, by whether it is turned down
abbrev pub by_down : Call Config Op → Buf → Run → Bool → StepResult × List ℕ
by_down c b r d = cond d ((ended (Refused 19), lent_to calls driver_of r.machine b), r.time)
    (drive c r.machine b, time_after 0 (sort_of c) (drive c r.machine b).0 r.machine.st r.time)

abbrev pub next_run : Call Config Op → Run → Bool → Run
next_run c r d = run_by r.access (by_down c r.machine.buf r d)

abbrev pub gives_lent_back : Call Config Op → Run → Event Config Op
gives_lent_back c r = record { call = c; lent = r.machine.buf }

abbrev pub Meets : List (Call Config Op) → Run → Machine Answer Pages → Type 0
Meets cs r y = Premise (heeded false 0 (first_of (earlies cs r)) r) r.machine y

-- ---- each call worked out once

abbrev pub quick : Call Config Op → Buf → Run → Run
quick c b r =
    let y = drive c r.machine b in
    let a = y.0 in
    record {
      machine = y.1;
      access = access_of a r.access;
      answer = a;
      time = time_after 0 (sort_of c) a r.machine.st r.time;
    }

abbrev pub quickly : Call Config Op → Run → Run
quickly c r = quick c r.machine.buf r

abbrev pub quick_own : Call Config Op → Run → Run
quick_own c r =
    let z = quickly c r in
    record { machine = z.machine; access = z.access; answer = r.answer; time = z.time }

-- a continue whose answer is not compared
abbrev pub quick_back : ℕ → Buf → Run → Run
quick_back v b r =
    let z = quick (continue v) b r in
    record { machine = z.machine; access = z.access; answer = r.answer; time = z.time }

abbrev pub quick_all : List (Call Config Op) → Run → Run
quick_all [] r = r
quick_all (c ∷ cs) r = let z = quickly c r in quick_all cs z

-- one for each move
abbrev pub ones : List Move → List ℕ
ones [] = []
ones (m ∷ ms) = 1 ∷ ones ms

-- ---- a session of channel OUT 1, from any run

abbrev pub parting : Run → Two
parting r = record { first = r; second = r; status = 0 }
