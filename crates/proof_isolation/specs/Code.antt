-- Request Fourteen of the Rattle code: what its calls make of the lent bytes in two runs. The contract of each call
-- says that it is one step of the machine of calls that the bytes are (machine/specs/Suspended.antt), with the bus time
-- calls/specs/Sharing.antt
use Rattle.std.specs.Prelude.{Bool, true, false, List, [], ◌∷◌, ◌≡◌, ℕ, zero}
use Rattle.regs.specs.declared.Access.{Access}
use Rattle.script.specs.Answers.{Answer}
use Rattle.script.specs.Calls.{Config, Op, start_row}
use Rattle.script.specs.Machine.{Buf, Call, start, begin, continue, question, Ans, idle}
use Rattle.machine.specs.Suspended.{drive, machine_of}
use Rattle.calls.specs.Sharing.{shared_call}
use Rattle.proof_book.specs.MachineRuns.{Premise}
use Rattle.proof_book.specs.Sorting.{sorts_of}
use Rattle.proof_isolation.specs.EqualExcept.{Channel}
use Rattle.proof_isolation.specs.Schedule.{Run, Two, Turn, begins, goes, asked, stores, others_time, first}
use Rattle.proof_isolation.specs.Schedule.{second, first-refused, second-refused, Parallel, gets_both}
use Rattle.proof_isolation.specs.Schedule.{shares_both, first_of, access_of, status_of, shared}
use Rattle.proof_isolation.specs.Schedule.{heeded, May, After}
use Rattle.proof_isolation.specs.FreshBook.{fresh_book}
use Rattle.proof_isolation.specs.Undisturbed.{Session, AlikeBefore}

-- ---- the calls that were made

-- what a call left: its answer, the state's bytes, the slot buffer and the record of bus time
pub record Left : Type 0 where
  pub answer : Ans Answer
  pub bytes : List ℕ
  pub slots : Buf
  pub time : List ℕ

-- one of the two runs: its bytes; the access handed out last, and what was answered last (to the channel's own opens,
-- closes and polls apart)
pub record Held : Type 0 where
  pub bytes : List ℕ
  pub slots : Buf
  pub access : Access
  pub answer : Ans Answer
  pub time : List ℕ

-- both, and the status word of the interrupt that is under way
pub record Pair : Type 0 where
  pub first : Held
  pub second : Held
  pub status : ℕ

-- what they are
abbrev pub run_of : Held → Run
run_of h = record { machine = machine_of h.bytes h.slots; access = h.access; answer = h.answer; time = h.time }

abbrev pub two_of : Pair → Two
two_of w = record { first = run_of w.first; second = run_of w.second; status = w.status }

-- the contract of call d of driver n, with the bus time that it shares, or of a driver that shares none (its record
-- then is what its calls would be charged, which no call reads)
abbrev pub CallStep : Bool → ℕ → Call Config Op → Buf → Held → Left → Type 0
CallStep true n d b h l = ((l.answer, machine_of l.bytes l.slots), l.time)
    ≡ shared_call n d (machine_of h.bytes h.slots) h.time b
CallStep false n d b h l = ((l.answer, machine_of l.bytes l.slots) ≡ drive d (machine_of h.bytes h.slots) b)
    × (l.time ≡ (shared false n d (machine_of h.bytes h.slots) h.time b).1)

-- a run after a call whose answer is compared, and after one whose answer is not
abbrev pub heard : Left → Held → Held
heard l h = record {
  bytes = l.bytes;
  slots = l.slots;
  access = access_of l.answer h.access;
  answer
      = l.answer;
  time = l.time;
}

abbrev pub unheard : Left → Held → Held
unheard l h = record {
  bytes = l.bytes;
  slots = l.slots;
  access = access_of l.answer h.access;
  answer
      = h.answer;
  time = l.time;
}

abbrev pub heard_own : Call Config Op → Left → Held → Held
heard_own (continue v) l h = heard l h
heard_own (begin o) l h = unheard l h
heard_own (start k) l h = unheard l h
heard_own (question q) l h = unheard l h

-- after the chip's stores, and after other drivers' calls
abbrev pub stored_to : Buf → Held → Held
stored_to b h = record { bytes = h.bytes; slots = b; access = h.access; answer = h.answer; time = h.time }

abbrev pub timed : (List ℕ → List ℕ) → Held → Held
timed f h = record { bytes = h.bytes; slots = h.slots; access = h.access; answer = h.answer; time = f h.time }

-- a turn with what its calls left; where it is of one run alone, the other's is not looked at
pub record TurnStep : Type 0 where
  pub turn : Turn
  pub first : Left
  pub second : Left

abbrev pub next_by : Turn → Left → Left → Pair → Pair
next_by (begins st o b b') l l' w =
    record {
      first = heard l w.first;
      second = heard l' w.second;
      status
          = status_of (run_of w.first).machine.under_way_lem st w.status;
    }
next_by (goes v v' b b') l l' w = record {
  first = heard l w.first;
  second = heard l' w.second;
  status
      = w.status;
}
next_by (asked q b b') l l' w = record { first = heard l w.first; second = heard l' w.second; status = w.status }
next_by (stores b b') l l' w = record {
  first = stored_to b w.first;
  second = stored_to b' w.second;
  status
      = w.status;
}
next_by (others_time f) l l' w = record { first = timed f w.first; second = timed f w.second; status = w.status }
next_by (first e) l l' w = record { first = heard_own e.call l w.first; second = w.second; status = w.status }
next_by (second e) l l' w = record { first = w.first; second = heard_own e.call l' w.second; status = w.status }
next_by (first-refused v b) l l' w = record { first = unheard l w.first; second = w.second; status = w.status }
next_by (second-refused v b) l l' w = record { first = w.first; second = unheard l' w.second; status = w.status }

abbrev pub next : TurnStep → Pair → Pair
next s w = next_by s.turn s.first s.second w

-- before the two part: a call of both, with the slot buffer that each is lent and what it left in each, or what other
-- drivers do to the bus time
pub data EarlyMade : Type 0 where
  got : Call Config Op → Buf → Buf → Left → Left → EarlyMade
  shared_by : (List ℕ → List ℕ) → EarlyMade

abbrev pub early : List EarlyMade → List Parallel
early [] = []
early (got c b b' l l' ∷ ms) = gets_both c b b' ∷ early ms
early (shared_by f ∷ ms) = shares_both f ∷ early ms

abbrev pub after_early : List EarlyMade → Pair → Pair
after_early [] w = w
after_early (got c b b' l l' ∷ ms) w = after_early ms (record {
  first = heard l w.first;
  second
      = heard l' w.second;
  status = w.status;
})
after_early (shared_by f ∷ ms) w = after_early ms (record {
  first = timed f w.first;
  second
      = timed f w.second;
  status = w.status;
})

-- a session (`Session`): a start-up with what it left in both, the calls that are the same in both, and the steps
pub record SessionMade : Type 0 where
  pub config : Config
  pub lent : Buf
  pub lent' : Buf
  pub up : Left
  pub up' : Left
  pub before : List EarlyMade
  pub channel : Channel
  pub steps : List TurnStep

abbrev pub turns_of : List TurnStep → List Turn
turns_of [] = []
turns_of (s ∷ ss) = s.turn ∷ turns_of ss

abbrev pub session_of : SessionMade → Session
session_of m = record {
  config = m.config;
  lent = m.lent;
  lent' = m.lent';
  before = early m.before;
  channel
      = m.channel;
  turns = turns_of m.steps;
}

abbrev pub started_by : SessionMade → Pair → Pair
started_by m w = record { first = heard m.up w.first; second = heard m.up' w.second; status = 0 }

abbrev pub opened_by : SessionMade → Pair → Pair
opened_by m w = after_early m.before (started_by m w)

abbrev pub after_steps : List TurnStep → Pair → Pair
after_steps [] w = w
after_steps (s ∷ ss) w = after_steps ss (next s w)

-- ---- each call is as its contract says, and each turn is allowed by the bytes as they then stand (`May`)

module _ (share : Bool) (n : ℕ) where
  abbrev pub DidBy : Turn → Left → Left → Pair → Type 0
  DidBy (begins st o b b') l l' w = CallStep share n (begin o) b w.first l
      × CallStep share n (begin o) b' w.second l'
  DidBy (goes v v' b b') l l' w = CallStep share n (continue v) b w.first l × CallStep share n (continue v') b' w.second l'
  DidBy (asked q b b') l l' w = CallStep share n (question q) b w.first l
      × CallStep share n (question q) b' w.second l'
  DidBy (stores b b') l l' w = Unit {0}
  DidBy (others_time f) l l' w = Unit {0}
  DidBy (first e) l l' w = CallStep share n e.call e.lent w.first l
  DidBy (second e) l l' w = CallStep share n e.call e.lent w.second l'
  DidBy (first-refused v b) l l' w = CallStep share n (continue v) b w.first l
  DidBy (second-refused v b) l l' w = CallStep share n (continue v) b w.second l'

  abbrev pub DidStep : TurnStep → Pair → Type 0
  DidStep s w = DidBy s.turn s.first s.second w

  abbrev pub DidEarly : List EarlyMade → Pair → Type 0
  DidEarly [] w = Unit {0}
  DidEarly (got c b b' l l' ∷ ms) w =
      CallStep share n c b w.first l × CallStep share n c b' w.second l'
      × DidEarly ms (record { first = heard l w.first; second = heard l' w.second; status = w.status })
  DidEarly (shared_by f ∷ ms) w = DidEarly ms (record {
    first = timed f w.first;
    second = timed f w.second;
    status
        = w.status;
  })

  abbrev pub DidSteps : Channel → List TurnStep → Pair → Type 0
  DidSteps c [] w = Unit {0}
  DidSteps c (s ∷ ss) w = DidStep s w × May c s.turn (two_of w) × DidSteps c ss (next s w)

  -- the promise after every step
  abbrev pub EveryStep : Channel → List TurnStep → Pair → Type 0
  EveryStep c [] w = Unit {0}
  EveryStep c (s ∷ ss) w = After c s.turn (two_of (next s w)) × EveryStep c ss (next s w)

  -- the start-up is accepted; the first run's calls are a list of demand 3's premise and come to a point after EP0's
  -- start with nothing under way; the channel is an isochronous OUT endpoint of the run; what the second is lent up to
  -- there is alike
  pub record Begun (m : SessionMade) (w : Pair) : Type 0 where
    pub accepted : start_row m.config m.lent ≡ zero
    pub up : CallStep share n (start m.config) m.lent w.first m.up
    pub up' : CallStep share n (start m.config) m.lent' w.second m.up'
    pub made : DidEarly m.before (started_by m w)
    pub lawful : let r = run_of (started_by m w).first in
        Premise (heeded share n (first_of (early m.before)) r) r.machine
        (fresh_book m.config m.lent r.answer)
    pub rests : (run_of (opened_by m w).first).machine.under_way_lem ≡ idle
    pub stage : (run_of (opened_by m w).first).machine.st.globals.stage ≡ 2
    pub sorts : m.channel.iso ≡ sorts_of (run_of (opened_by m w).first).machine.st
    pub alike : AlikeBefore share n m.channel (run_of (opened_by m w).first).machine.st m.config m.lent
        m.lent' (early m.before)
        (run_of (started_by m w).first) (run_of (started_by m w).second)
    pub steps : DidSteps m.channel m.steps (opened_by m w)

  abbrev pub AllBegun : List SessionMade → Pair → Type 0
  AllBegun [] w = Unit {0}
  AllBegun (m ∷ ms) w = Begun m w × AllBegun ms (after_steps m.steps (opened_by m w))

  abbrev pub CodeTimely : List SessionMade → Pair → Type 0
  CodeTimely [] w = Unit {0}
  CodeTimely (m ∷ ms) w = EveryStep m.channel m.steps (opened_by m w)
      × CodeTimely ms (after_steps m.steps (opened_by m w))
