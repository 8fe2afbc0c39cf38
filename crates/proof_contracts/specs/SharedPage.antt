-- Demand 3 with the record of bus time, to be read beside proof_book/specs/FrontPage.antt: every public call is in its
-- lists, those that bring the record and an
-- enabling that row 19 stops too. Definitions only. `shared-demand-3` (SharedDemand3.antt) is the theorem
use Rattle.std.specs.Prelude.{true, false, List, [], ◌∷◌, ◌++◌, ◌≡◌, ℕ, zero, ◌<◌, length}
use Rattle.regs.specs.declared.Access.TheVariants.{Write}
use Rattle.regs.specs.declared.Reg.TheVariants.{EpTLen, EpConfig}
use Rattle.regs.specs.declared.Dir.{Dir}
use Rattle.script.specs.Answers.{Answer, End}
use Rattle.script.specs.Calls.{Config, Op, start_row}
use Rattle.script.specs.Machine.{Buf, Event, start, continue, Machine, Ans, ended, handed, blank_a}
use Rattle.machine.specs.Suspended.{machine_of}
use Rattle.answer.specs.Goes.{StepResult}
use Rattle.calls.specs.Sharing.{sort_of, shared_call}
use Rattle.proof_book.specs.Pages.{Packet, Pages}
use Rattle.proof_book.specs.Lengths.{Known, learnt, length_at}
use Rattle.proof_book.specs.Others.{releasing, sends_to, Names, under_way, call_names, Away, SamePage}
use Rattle.proof_book.specs.Arrivals.{Note, after, above}
use Rattle.proof_book.specs.Book.{iso_of}
use Rattle.proof_book.specs.Allocated.{Sorts, sorts_after}
use Rattle.proof_book.specs.Loads.{Heard, hears, hearing, values_of, last_in, loads_in, Loads, SentAll}
use Rattle.proof_book.specs.FrontPage.{CallRecord, BufferPreserved, Decides, AfterCall, ArrivalIs, NoneMissed, InOrder}
use Rattle.proof_book.specs.FrontPage.{LengthWritten, in_interrupt}
use Rattle.proof_contracts.specs.SharedBook.{shared_step, time_in}

-- a call that was made: the call and the slot buffer it was lent; the record before it; its answer; the state's
-- bytes, the slot buffer and the record as
-- it left them
pub record MadeShared : Type 0 where
  pub event : Event Config Op
  pub before : List ℕ
  pub answer : Ans Answer
  pub bytes : List ℕ
  pub slots : Buf
  pub time : List ℕ

-- what it came to
abbrev pub outcome_of : MadeShared → StepResult × List ℕ
outcome_of m = ((m.answer, machine_of m.bytes m.slots), m.time)

-- its contract, by driver i, where the state's bytes were xs and the slot buffer a (calls/specs/Sharing.antt)
abbrev pub CallStep : ℕ → List ℕ → Buf → MadeShared → Type 0
CallStep i xs a m = outcome_of m ≡ shared_call i m.event.call (machine_of xs a) m.before m.event.lent

abbrev pub noted : ℕ → MadeShared → Machine Answer Pages → Ans Answer × Machine Answer Pages
noted i m n = shared_step i m.answer m.event.call n m.before m.event.lent

-- calls of driver i one after the other, from the state's bytes xs, the slot buffer a and the book n. Between two of
-- them the other drivers' calls may
-- have changed the record in any way
abbrev pub Calls : ℕ → List ℕ → Buf → Machine Answer Pages → List MadeShared → Type 0
Calls i xs a n [] = Unit {0}
Calls i xs a n (m ∷ ms) =
    CallStep i xs a m × BufferPreserved m.event.call n a m.event.lent
    × Calls i m.bytes m.slots (noted i m n).1 ms

-- after call v, with the record before it; x: its answer, the driver and the slot buffer after it, and the record; the
-- book n before it
pub record AfterShared (i : ℕ) (v : Event Config Op) (before : List ℕ) (x : StepResult × List ℕ)
    (n : Machine Answer Pages) : Type 0 where
  -- all that demand 3 says after a call without the record
  pub call : AfterCall v.call v.lent n x.0.0 x.0.1.st x.0.1.buf
      (shared_step i x.0.0 v.call n before v.lent).1.st
  -- row 19 goes by the book, and so do all: it answers the same, but for the addresses of accesses
  pub answers : blank_a x.0.0 ≡ blank_a (shared_step i x.0.0 v.call n before v.lent).0
  -- the record is what the book works out
  pub time : x.1 ≡ time_in i (sort_of v.call) x.0.0 n.st before

abbrev pub AfterEach : ℕ → Machine Answer Pages → List MadeShared → Type 0
AfterEach i n [] = Unit {0}
AfterEach i n (m ∷ ms) = AfterShared i m.event m.before (outcome_of m) n × AfterEach i (noted i m n).1 ms

-- the lengths of those that arrive (LengthIs of FrontPage.antt). A call that row 19 stops leaves what the operation
-- under way was brought
abbrev pub LengthIs : ℕ → MadeShared → Machine Answer Pages → Known → Type 0
LengthIs i m n k = (e : ℕ) → Decides m.event.call n m.answer e → (q : Packet)
    → ((noted i m n).1.st.outs e).waiting ≡ (n.st.outs e).waiting ++ (q ∷ [])
    → length q.bytes ≡ length_at k.readings m.event.lent n.st e

abbrev pub LengthsEach : ℕ → Machine Answer Pages → Known → List MadeShared → Type 0
LengthsEach i n k [] = Unit {0}
LengthsEach i n k (m ∷ ms) =
    let l = learnt m.event.call m.answer k in LengthIs i m n l × LengthsEach i (noted i m n).1 l ms

-- the pages of the endpoints that are not named stay (OthersStay of FrontPage.antt). A call that row 19 stops leaves
-- what the operation under way names
abbrev pub OthersStay : ℕ → MadeShared → Machine Answer Pages → Names → Type 0
OthersStay i m n k = releasing m.answer ≡ false → (d : Dir) (e : ℕ) → Away (call_names m.event.call k) d e
    → SamePage d e n.st (noted i m n).1.st

abbrev pub OthersEach : ℕ → Machine Answer Pages → Names → List MadeShared → Type 0
OthersEach i n k [] = Unit {0}
OthersEach i n k (m ∷ ms) =
    OthersStay i m n k × OthersEach i (noted i m n).1 (under_way m.event.call m.answer k) ms

-- the call as one without the record
abbrev pub made_of : MadeShared → CallRecord
made_of m = record { event = m.event; answer = m.answer; bytes = m.bytes; slots = m.slots }

-- what an arrival is, that none is missed, and their order (ArrivalIs, NoneMissed and InOrder of FrontPage.antt). A
-- call that row 19 stops leaves what the operation under way was brought and decided
abbrev pub ArrivalsEach : ℕ → Machine Answer Pages → Note → List MadeShared → Type 0
ArrivalsEach i n k [] = Unit {0}
ArrivalsEach i n k (m ∷ ms) = ArrivalIs (made_of m) n k × NoneMissed (made_of m) n k
    × ArrivalsEach i (noted i m n).1 (after m.event.call m.answer n.st m.event.lent k) ms

abbrev pub OrderEach : ℕ → Machine Answer Pages → ℕ → List MadeShared → Type 0
OrderEach i n b [] = Unit {0}
OrderEach i n b (m ∷ ms) =
    InOrder (made_of m) n b × OrderEach i (noted i m n).1 (above m.event.call m.answer b) ms

-- the lengths that loads write (LoadLength of FrontPage.antt). A call that row 19 stops leaves what was handed out last
abbrev pub LoadLength : ℕ → MadeShared → Machine Answer Pages → Known → Type 0
LoadLength i m n k = (e x v : ℕ) → 0 < e → m.event.call ≡ continue v → m.answer ≡ handed (Write EpTLen e x)
    → LengthWritten (sends_to k.asked e) x (n.st.ins e) ((noted i m n).1.st.ins e)

-- which IN endpoints an interrupt loads, and that it has loaded all it had to (LoadIs and NoneUnsent of FrontPage.antt)
abbrev pub LoadIs : ℕ → MadeShared → Machine Answer Pages → Heard → Type 0
LoadIs i m n k = (e v : ℕ) → e < 16 → m.event.call ≡ continue v → in_interrupt n.under_way_lem ≡ true
    → Loads (hears v k) (values_of n.st e) e (last_in n.st e) (last_in (noted i m n).1.st e)
    (loads_in k.known.asked m.answer e)

abbrev pub NoneUnsent : ℕ → MadeShared → Machine Answer Pages → Heard → Type 0
NoneUnsent i m n k = (e v r : ℕ) (ws : List ℕ) → e < 16 → m.event.call ≡ continue v → in_interrupt n.under_way_lem
    ≡ true
    → m.answer ≡ ended (End r ws)
    → let t = (noted i m n).1.st in
    SentAll (hears v k) (values_of n.st e) e (last_in t e) t.kept.globals.sof_frame

abbrev pub LoadsEach : ℕ → Machine Answer Pages → Heard → List MadeShared → Type 0
LoadsEach i n k [] = Unit {0}
LoadsEach i n k (m ∷ ms) = LoadIs i m n k × NoneUnsent i m n k
    × LoadsEach i (noted i m n).1 (hearing m.event.call m.answer n.st k) ms

-- which endpoints are isochronous is what the allocations say (SortsEach of FrontPage.antt)
abbrev pub SortsEach : ℕ → Machine Answer Pages → Sorts → List MadeShared → Type 0
SortsEach i n f [] = Unit {0}
SortsEach i n f (m ∷ ms) =
    let g = sorts_after m.event.call m.answer n.st.kept.allocator f in
    ((d : Dir) (e : ℕ) → iso_of (noted i m n).1.st d e ≡ g d e) × SortsEach i (noted i m n).1 g ms

-- ep_config is kept as it is written (ConfigKept of FrontPage.antt)
abbrev pub ConfigKept : ℕ → MadeShared → Machine Answer Pages → Type 0
ConfigKept i m n =
    (v : ℕ) → m.answer ≡ handed (Write EpConfig 0 v) → (noted i m n).1.st.kept.globals.ep_config ≡ v

abbrev pub WritesEach : ℕ → Machine Answer Pages → Known → List MadeShared → Type 0
WritesEach i n k [] = Unit {0}
WritesEach i n k (m ∷ ms) =
    LoadLength i m n k × ConfigKept i m n × WritesEach i (noted i m n).1 (learnt m.event.call m.answer k) ms

-- as Demand3 of FrontPage.antt, for each of the four drivers
abbrev pub SharedDemand3 : Type 0
SharedDemand3 = (i : ℕ) (c : Config) (b : Buf) → start_row c b ≡ zero
    → (xs : List ℕ) (a : Buf) (n : Machine Answer Pages) (first : MadeShared)
    → first.event ≡ record { call = start c; lent = b } → (ms : List MadeShared) → Calls i xs a n (first ∷ ms)
    → AfterEach i n (first ∷ ms) × ((k : Known) → LengthsEach i n k (first ∷ ms))
    × ((k : Names) → OthersEach i n k (first ∷ ms))
    × ((k : Note) → ArrivalsEach i n k (first ∷ ms)) × ((k : ℕ) → OrderEach i n k (first ∷ ms))
    × ((k : Known) → WritesEach i n k (first ∷ ms)) × ((k : Heard) → LoadsEach i n k (first ∷ ms))
    × ((f : Sorts) → SortsEach i n f (first ∷ ms))
