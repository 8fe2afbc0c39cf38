-- A call that brings several readings, in lists of calls: in its place stand the calls of one access each that it is,
-- so that every theorem over lists of calls speaks of it. The run's slot buffer is any, a: it need not be the one that
-- is lent, since the chip may have stored since the last call, and one of a wrong length (row 1) does not become the
-- run's. Definitions. `continue-calls` and `interrupt-calls` (TogetherLaws.antt) make the list
use Rattle.std.specs.Prelude.{Bool, true, false, List, [], ◌∷◌, ◌≡◌, ℕ}
use Rattle.regs.specs.declared.Reg.{Reg}
use Rattle.state.specs.State.{view}
use Rattle.script.specs.Answers.{Answer}
use Rattle.script.specs.Calls.{Config, Op, interrupt}
use Rattle.script.specs.Machine.{Buf, Call, begin, continue, Event, Ans, ended, handed, told}
use Rattle.answer.specs.declared.Step.{Step}
use Rattle.machine.specs.Suspended.{answer_of, lent_or, BufferUnchangedOnRow1}
use Rattle.readings.specs.Readings.{Reading, Lent, lent, reads_of}
use Rattle.proof_contracts.specs.SharedPage.{MadeShared}
use Rattle.proof_contracts.specs.SavedPage.{Saving}

-- the answer hands out a reading of that register
abbrev pub asked : Reg → Ans Answer → Bool
asked r (ended a) = false
asked r (handed q) = reads_of r q
asked r (told n) = false

abbrev pub event : Call Config Op → Buf → Event Config Op
event c b = record { call = c; lent = b }

-- calls after m: each is a continue that brings the next reading, which the answer before it asks for, and is lent what
-- that call left; they end where another one is asked for, or none is left
abbrev pub InTurn : List Reading → MadeShared → List MadeShared → Type 0
InTurn [] m [] = Unit {0}
InTurn [] m (k ∷ ks) = ⊥
InTurn (v ∷ vs) m [] = asked v.register m.answer ≡ false
InTurn (v ∷ vs) m (k ∷ ks) = (asked v.register m.answer ≡ true)
    × (k.event ≡ event (continue v.value) m.slots)
    × (k.before ≡ m.time) × InTurn vs k ks

abbrev pub last_of : MadeShared → List MadeShared → MadeShared
last_of m [] = m
last_of m (k ∷ ks) = last_of k ks

-- it answered r and left the state's bytes and the record as l has them, and b as the run's slot buffer
pub record ComesTo (m : MadeShared) (r : Step) (l : Lent) (b : Buf) : Type 0 where
  pub answer : m.answer ≡ answer_of r [] (view l.bytes)
  pub bytes : m.bytes ≡ l.bytes
  pub slots : m.slots ≡ b
  pub time : m.time ≡ l.time

-- a continue of driver i that brings v, and those that bring the readings: from what was lent, and the run's slot
-- buffer a, they come to the answer r and leave l'. As with one continue (`IsStepCharged`, Steps.antt): where the
-- length of the lent buffer is wrong the run's own stays, and the lent one too
pub record AreSteps (i v : ℕ) (vs : List Reading) (l : Lent) (a : Buf) (r : Step) (l' : Lent) (first : MadeShared)
    (further : List MadeShared) : Type 0 where
  pub called : first.event ≡ event (continue v) l.slots
  pub before : first.before ≡ l.time
  pub steps : Saving i l.bytes a (first ∷ further)
  pub turns : InTurn vs first further
  pub leaves : ComesTo (last_of first further) r l' (lent_or (view l.bytes) l.slots l'.slots a)
  pub kept : BufferUnchangedOnRow1 (view l.bytes) l.slots l'.slots

-- calls after m, which brought no slot buffer: none where m does not ask for the reading v; else a continue that brings
-- it, and is the first that is lent the buffer, and those that bring the readings after it
abbrev pub Followed : ℕ → Reading → List Reading → Lent → Step → Lent → MadeShared → List MadeShared → Type 0
Followed i v vs l r l' m [] = (asked v.register m.answer ≡ false) × ComesTo m r l' m.slots
    × (l'.slots ≡ l.slots)
Followed i v vs l r l' m (k ∷ ks) =
    (asked v.register m.answer ≡ true) × AreSteps i v.value vs (lent m.bytes l.slots m.time)
    m.slots r l' k ks

-- the interrupt's begin by driver i, and those that bring the readings. The begin brings neither the slot buffer nor
-- the record: as with the begin alone
-- (`IsStep`, Steps.antt) both stay as they stand then, b and what was lent
pub record InterruptSteps (i : ℕ) (v : Reading) (vs : List Reading) (l : Lent) (a b : Buf) (r : Step) (l' : Lent)
    (first : MadeShared)
    (further : List MadeShared)
    : Type 0 where
  pub called : first.event ≡ event (begin interrupt) b
  pub before : first.before ≡ l.time
  pub slots : first.slots ≡ b
  pub time : first.time ≡ l.time
  pub steps : Saving i l.bytes a (first ∷ further)
  pub rest : Followed i v vs l r l' first further
