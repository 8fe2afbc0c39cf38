-- Two runs, turn by turn: which calls they get, and what request Fourteen says of them
use Rattle.std.specs.Prelude.{Bool, true, false, cond, ◌&&◌, List, [], ◌∷◌, ◌≢◌, ◌≡◌, ℕ, zero, ◌+◌, ◌≤◌, ◌<◌, get_or}
use Rattle.regs.specs.declared.Access.{Access}
use Rattle.regs.specs.declared.Dir.{Dir}
use Rattle.regs.specs.declared.Dir.TheVariants.{Out}
use Rattle.state.specs.Driver.{Driver, key, ep_on}
use Rattle.state.specs.Wakes.{listed}
use Rattle.ring.specs.Waiting.{waiting}
use Rattle.script.specs.Answers.{Answer, Refused, End}
use Rattle.script.specs.Calls.{Config, Op, interrupt, slotted, other, aside, slots, calls, start_row}
use Rattle.script.specs.Machine.{Buf, Question, pending, overruns, enabled, Call, start, begin, continue, question}
use Rattle.script.specs.Machine.{Event, Ans}
use Rattle.script.specs.Machine.{ended, handed, told, Pending, idle, busy, Machine, over, misfit, lent_to}
use Rattle.script_ops.specs.Rings.{St}
use Rattle.machine.specs.Suspended.{driver_of, drive}
use Rattle.answer.specs.Goes.{StepResult}
use Rattle.answer.specs.Questions.{question_of}
use Rattle.proof_book.specs.Coupling.{end_of, lens_of, slot_stamps}
use Rattle.proof_book.specs.Stamps.{stamped}
use Rattle.calls.specs.Sharing.{sort_of, time_after, turned_down}
use Rattle.proof_isolation.specs.EqualExcept.{others, Channel}
use Rattle.proof_isolation.specs.Whose.{own}
use Rattle.proof_isolation.specs.Apart.{Brings}
use Rattle.proof_isolation.specs.Operations.{Common, OfChannel}
use Rattle.proof_isolation.specs.Stores.{StoredAlike, OwnLent}

-- ---- the runs

-- one of the two: its machine of calls, the access that it handed out last, what it was answered last (to the channel's
-- own opens, closes and polls apart), and the bus time in use
pub record Run : Type 0 where
  pub machine : Machine Answer Driver
  pub access : Access
  pub answer : Ans Answer
  pub time : List ℕ

-- both, and the status word of the interrupt that is under way
pub record Two : Type 0 where
  pub first : Run
  pub second : Run
  pub status : ℕ

-- what both get: an operation begun or a call that ends at once, with the status word of an interrupt; a continue with
-- its two readings; a question; the chip's stores; what other drivers do to the bus time. What one of them gets alone;
-- a continue of one alone that is refused, with its reading. Each with the slot buffers as they stand then
pub data Turn : Type 0 where
  begins : ℕ → Op → Buf → Buf → Turn
  goes : ℕ → ℕ → Buf → Buf → Turn
  asked : Question → Buf → Buf → Turn
  stores : Buf → Buf → Turn
  others_time : (List ℕ → List ℕ) → Turn
  first second : Event Config Op → Turn
  first-refused second-refused : ℕ → Buf → Turn

-- before the two part: a call of both, or what other drivers do to the bus time
pub data Early : Type 0 where
  gets : Event Config Op → Early
  shares : (List ℕ → List ℕ) → Early

-- the same of both runs: a call, with the slot buffer that each of them is lent
pub data Parallel : Type 0 where
  gets_both : Call Config Op → Buf → Buf → Parallel
  shares_both : (List ℕ → List ℕ) → Parallel

abbrev pub first_of : List Parallel → List Early
first_of [] = []
first_of (gets_both c b b' ∷ ps) = gets (record { call = c; lent = b }) ∷ first_of ps
first_of (shares_both f ∷ ps) = shares f ∷ first_of ps

abbrev pub second_of : List Parallel → List Early
second_of [] = []
second_of (gets_both c b b' ∷ ps) = gets (record { call = c; lent = b' }) ∷ second_of ps
second_of (shares_both f ∷ ps) = shares f ∷ second_of ps

-- the access handed out last
abbrev pub access_of : Ans Answer → Access → Access
access_of (ended a) q = q
access_of (handed q') q = q'
access_of (told k) q = q

-- a run after a call
abbrev pub run_by : Access → StepResult × List ℕ → Run
run_by q z = record { machine = z.0.1; access = access_of z.0.0 q; answer = z.0.0; time = z.1 }

abbrev pub own_by : Access → Ans Answer → StepResult × List ℕ → Run
own_by q a z = record { machine = z.0.1; access = access_of z.0.0 q; answer = a; time = z.1 }

-- after stores
abbrev pub stored_in : Buf → Run → Run
stored_in b r = record {
  machine = lent_to calls driver_of r.machine b;
  access = r.access;
  answer = r.answer;
  time
      = r.time;
}

-- and after other drivers' calls
abbrev pub sharing : (List ℕ → List ℕ) → Run → Run
sharing f r = record { machine = r.machine; access = r.access; answer = r.answer; time = f r.time }

-- the status word: that of the operation under way
abbrev pub status_of : Pending Answer Driver → ℕ → ℕ → ℕ
status_of idle st old = st
status_of (busy i a k) st old = old

-- of driver n; `share`: it shares the bus time with others, and is turned down where that has no room (row 19)
module _ (share : Bool) (n : ℕ) where
  abbrev pub shared : Call Config Op → Machine Answer Driver → List ℕ → Buf → StepResult × List ℕ
  shared c m t b =
      cond (turned_down n (sort_of c) (drive c m b).0 m.st t && share)
      ((ended (Refused 19), lent_to calls driver_of m b), t) (
        drive c m b,
        time_after n (sort_of c) (drive c m b).0 m.st t,
      )

  -- a call whose answer is compared, and one of the channel's own, whose answer is not
  abbrev pub called : Call Config Op → Buf → Run → Run
  called c b r = run_by r.access (shared c r.machine r.time b)

  abbrev pub apart : Call Config Op → Buf → Run → Run
  apart c b r = own_by r.access r.answer (shared c r.machine r.time b)

  -- alone: the continue of an access of the channel's own is compared
  abbrev pub alone : Call Config Op → Buf → Run → Run
  alone (continue v) b r = called (continue v) b r
  alone (begin o) b r = apart (begin o) b r
  alone (start c) b r = apart (start c) b r
  alone (question q) b r = apart (question q) b r

  abbrev pub turn : Turn → Two → Two
  turn (begins st o b b') w = record {
    first = called (begin o) b w.first;
    second = called (begin o) b' w.second;
    status = status_of w.first.machine.under_way_lem st w.status;
  }
  turn (goes v v' b b') w = record {
    first = called (continue v) b w.first;
    second
        = called (continue v') b' w.second;
    status = w.status;
  }
  turn (asked q b b') w = record {
    first = called (question q) b w.first;
    second
        = called (question q) b' w.second;
    status = w.status;
  }
  turn (stores b b') w = record { first = stored_in b w.first; second = stored_in b' w.second; status = w.status }
  turn (others_time f) w = record { first = sharing f w.first; second = sharing f w.second; status = w.status }
  turn (first e) w = record { first = alone e.call e.lent w.first; second = w.second; status = w.status }
  turn (second e) w = record { first = w.first; second = alone e.call e.lent w.second; status = w.status }
  turn (first-refused v b) w = record {
    first = apart (continue v) b w.first;
    second = w.second;
    status
        = w.status;
  }
  turn (second-refused v b) w = record {
    first = w.first;
    second = apart (continue v) b w.second;
    status
        = w.status;
  }

  abbrev pub given : List Early → Run → Run
  given [] r = r
  given (gets e ∷ es) r = given es (called e.call e.lent r)
  given (shares f ∷ es) r = given es (sharing f r)

  -- those that the driver is given: one that is turned down changes no more than a question does
  abbrev pub heeded : List Early → Run → List (Event Config Op)
  heeded [] r = []
  heeded (gets e ∷ es) r =
      cond (turned_down n (sort_of e.call) (drive e.call r.machine e.lent).0 r.machine.st r.time
      && share)
      (record { call = question (pending 0); lent = e.lent }) e ∷ heeded es (called e.call e.lent r)
  heeded (shares f ∷ es) r = heeded es (sharing f r)

-- ---- the premise

-- a run's state with its slot buffer
abbrev pub state_of : Run → St
state_of r = (r.machine.st, r.machine.buf)

-- "every operation is continued to its end before another call but open, close and queue"
abbrev Passes : Op → Type 0
Passes (aside o) = Unit {0}
Passes interrupt = ⊥
Passes (slotted o) = ⊥
Passes (other o) = ⊥

abbrev pub Timely : Pending Answer Driver → Op → Type 0
Timely idle o = Unit {0}
Timely (busy i a k) o = Passes o

-- row 1: a call that brings the slot buffer, of a wrong length
abbrev pub unfit : Call Config Op → Run → Buf → Bool
unfit (start k) r b = false
unfit (begin o) r b = cond (slots o) (misfit calls driver_of r.machine.st b) false
unfit (continue v) r b = misfit calls driver_of r.machine.st b
unfit (question q) r b = false

-- row 16: a reading with bits above its width
abbrev pub wide : Pending Answer Driver → ℕ → Bool
wide idle v = false
wide (busy i a k) v = over calls a v

-- rows 15 and 16 refuse a continue with this reading
abbrev pub refusing : Pending Answer Driver → ℕ → Bool
refusing idle v = true
refusing (busy i a k) v = over calls a v

module _ (c : Channel) where
  -- the run stands at an access made for the channel
  abbrev pub at_own : Run → Bool
  at_own r = own c.number r.access r.machine

  -- what the questions ask, but for the channel's overruns
  abbrev pub Asked : Question → Type 0
  Asked (pending e) = Unit {0}
  Asked (overruns e) = key Out e ≢ key Out c.number
  Asked (enabled dir e) = Unit {0}

  -- a call of both: refused with 1, which any buffer of a wrong length is; or lent the slot buffers as `StoredAlike`
  -- says
  pub data BothCall (o : Op) (r r' : Run) (b b' : Buf) : Type 0 where
    call_row1 : unfit (begin o) r b ≡ true → unfit (begin o) r' b' ≡ true → BothCall o r r' b b'
    call_lent : StoredAlike c (state_of r) (state_of r') b b' → BothCall o r r' b b'

  -- after a reading its values; where nothing is under way any number (row 15)
  abbrev pub BringsAt : Pending Answer Driver → ℕ → Access → ℕ → ℕ → Type 0
  BringsAt idle st q v v' = Unit {0}
  BringsAt (busy i a k) st q v v' = Brings c.number st q v v'

  -- a continue of both: refused with 1; refused with 16, both readings being too wide; or with readings as `Brings`
  -- says
  pub data BothGo (st v v' : ℕ) (r r' : Run) (b b' : Buf) : Type 0 where
    go_row1 : unfit (continue v) r b ≡ true → unfit (continue v') r' b' ≡ true → BothGo st v v' r r' b b'
    go_row16 : wide r.machine.under_way_lem v ≡ true → wide r'.machine.under_way_lem v' ≡ true → StoredAlike c (state_of r) (state_of r') b b' → BothGo st v v' r r' b b'
    go_on : wide r.machine.under_way_lem v ≡ false → wide r'.machine.under_way_lem v' ≡ false
        → BringsAt r.machine.under_way_lem st r.access v v'
        → StoredAlike c (state_of r) (state_of r') b b' → BothGo st v v' r r' b b'

  -- a call of one alone: refused with 1, or lent its slot buffer as `OwnLent` says
  pub data OwnCall (d : Call Config Op) (r : Run) (b : Buf) : Type 0 where
    own_row1 : unfit d r b ≡ true → OwnCall d r b
    own_lent : OwnLent c (state_of r) b → OwnCall d r b

  -- a continue of one alone that is refused, at any access: with 1, or with 15 or 16, its slot buffer lent as `OwnLent`
  -- says
  pub data Refuses (v : ℕ) (r : Run) (b : Buf) : Type 0 where
    back_row1 : unfit (continue v) r b ≡ true → Refuses v r b
    back_lent : refusing r.machine.under_way_lem v ≡ true → OwnLent c (state_of r) b → Refuses v r b

  -- alone: the continues of an access of the channel's own, whatever they bring, refused ones too; its opens and
  -- closes; its read's polls
  abbrev pub Alone : Call Config Op → Buf → Run → Type 0
  Alone (continue v) b r = (at_own r ≡ true) × OwnCall (continue v) r b
  Alone (begin o) b r = OfChannel c.number o × Timely r.machine.under_way_lem o × OwnCall (begin o) r b
  Alone (start k) b r = start_row k b ≢ zero
  Alone (question q) b r = b ≡ r.machine.buf

  -- What is allowed. "They line up by the accesses not made for it, between which the others get the same calls and
  -- stores in the same order": a call, a question or a store of both where both stand at an access of the channel's own
  -- or neither does; a continue of both where neither does, with the same readings but for the channel's lengths. Both
  -- may be refused with 1 or 16. One alone: continues of an access of the channel's own, refused ones too; the
  -- channel's opens, closes and read's polls; stores in the channel's slots; at any access a continue that is refused,
  -- which the other run may get sooner or later, or not at all. Not allowed: a call of the others where one stands at
  -- an access of the channel's own and the other does not; a start-up (it begins a new session)
  abbrev pub May : Turn → Two → Type 0
  May (begins st o b b') w = (at_own w.first ≡ at_own w.second) × Common c.number o
      × Timely w.first.machine.under_way_lem o × BothCall o w.first w.second b b'
  May (goes v v' b b') w = (at_own w.first ≡ false) × (at_own w.second ≡ false)
      × BothGo w.status v v' w.first w.second b b'
  May (asked q b b') w = (at_own w.first ≡ at_own w.second) × Asked q
      × StoredAlike c (state_of w.first) (state_of w.second) b b'
  May (stores b b') w = (at_own w.first ≡ at_own w.second)
      × StoredAlike c (state_of w.first) (state_of w.second) b b'
  May (others_time f) w = Unit {0}
  May (first e) w = Alone e.call e.lent w.first
  May (second e) w = Alone e.call e.lent w.second
  May (first-refused v b) w = Refuses v w.first b
  May (second-refused v b) w = Refuses v w.second b

-- ---- what is promised

-- the same access, value and address included, or the same answer; of wake-ups those of the others, in their order
pub data SameAns (x : ℕ) : Ans Answer → Ans Answer → Type 0 where
  same : (a : Ans Answer) → SameAns x a a
  ended_same : (k : ℕ) {l l' : List ℕ} → others x l ≡ others x l' → SameAns x (ended (End k l)) (ended (End k l'))

-- nothing is under way in both, or the same access
abbrev pub SameStand : Pending Answer Driver → Pending Answer Driver → Access → Access → Type 0
SameStand idle idle q q' = Unit {0}
SameStand idle (busy i a k) q q' = ⊥
SameStand (busy i a k) idle q q' = ⊥
SameStand (busy i a k) (busy i' a' k') q q' = q ≡ q'

module _ (c : Channel) where
  -- "every other endpoint has the same queue, stamps, bytes, overruns and wake-ups in both"
  pub record SameOthers (m m' : Machine Answer Driver) : Type 0 where
    -- the packets that wait, tail to head, each with its bytes
    pub queue : (dir : Dir) (e : ℕ) → key dir e ≢ key Out c.number → waiting m.buf
        (ep_on m.st dir e) (lens_of m.st dir e) ≡ waiting m'.buf (ep_on m'.st dir e) (lens_of m'.st dir e)
    pub stamps : (e : ℕ) → key Out e ≢ key Out c.number
        → stamped (ep_on m.st Out e) (slot_stamps m.st e) ≡ stamped (ep_on m'.st Out e) (slot_stamps m'.st e)
    -- of its slots
    pub bytes : (dir : Dir) (e k : ℕ) → key dir e ≢ key Out c.number
        → (ep_on m.st dir e).base ≤ k → k < end_of (ep_on m.st dir e) → get_or m.buf k 0 ≡ get_or m'.buf k 0
    -- of EP0's buffer, which lies at the same place in both
    pub ep0_place : m.st.globals.ep0_buf ≡ m'.st.globals.ep0_buf
    pub ep0 : (k : ℕ) → m.st.globals.ep0_buf ≤ k → k < m.st.globals.ep0_buf + m.st.allocator.size
        → get_or m.buf k 0 ≡ get_or m'.buf k 0
    pub overrun : (e : ℕ) → key Out e ≢ key Out c.number → (ep_on m.st Out e).overruns
        ≡ (ep_on m'.st Out e).overruns
    -- gathered so far, "the order in which wake-ups of other endpoints stand to each other"
    pub wakes : others c.number (listed m.st.wakes) ≡ others c.number (listed m'.st.wakes)
    pub questions : (q : Question) → Asked c q → question_of q m.st ≡ question_of q m'.st

  -- a turn of both is answered the same, or one of them is handed an access of the channel's own
  pub data Answers (r r' : Run) : Type 0 where
    alike : SameAns c.number r.answer r'.answer → Answers r r'
    own_first : at_own c r ≡ true → r.answer ≡ handed r.access → Answers r r'
    own_second : at_own c r' ≡ true → r'.answer ≡ handed r'.access → Answers r r'

  abbrev pub Answered : Turn → Two → Type 0
  Answered (begins st o b b') w = Answers w.first w.second
  Answered (goes v v' b b') w = Answers w.first w.second
  Answered (asked q b b') w = Answers w.first w.second
  Answered (stores b b') w = Unit {0}
  Answered (others_time f) w = Unit {0}
  Answered (first e) w = Unit {0}
  Answered (second e) w = Unit {0}
  Answered (first-refused v b) w = Unit {0}
  Answered (second-refused v b) w = Unit {0}

  -- after a turn
  pub record After (t : Turn) (w : Two) : Type 0 where
    pub answers : Answered t w
    -- where neither stands at an access of the channel's own, both stand at the same access or at rest, and were
    -- answered the same last
    pub stands : at_own c w.first ≡ false → at_own c w.second ≡ false
        → SameStand w.first.machine.under_way_lem w.second.machine.under_way_lem w.first.access
        w.second.access
    pub lined : at_own c w.first ≡ false → at_own c w.second ≡ false
        → SameAns c.number w.first.answer w.second.answer
    -- there, and where both do
    pub alike : at_own c w.first ≡ at_own c w.second → SameOthers w.first.machine w.second.machine
    -- "the bus time in use agrees too"
    pub time : w.first.time ≡ w.second.time

  module _ (share : Bool) (n : ℕ) where
    -- every turn's premise, by the machines as they then stand
    abbrev pub Allowed : List Turn → Two → Type 0
    Allowed [] w = Unit {0}
    Allowed (t ∷ ts) w = May c t w × Allowed ts (turn share n t w)

    -- the promise after every turn
    abbrev pub Every : List Turn → Two → Type 0
    Every [] w = Unit {0}
    Every (t ∷ ts) w = After t (turn share n t w) × Every ts (turn share n t w)

-- the two runs after a list of turns
abbrev pub after : Bool → ℕ → List Turn → Two → Two
after share n [] w = w
after share n (t ∷ ts) w = after share n ts (turn share n t w)
