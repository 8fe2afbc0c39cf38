-- The same of the Rattle code: what its calls make of four drivers' lent bytes and the lent record. The contract of
-- each call says that it is one step of the machine of calls that the bytes are; that of start-up, enabling and
-- continue, with the record (calls/specs/Sharing.antt)
use Rattle.std.specs.Prelude.{cond, List, [], ◌∷◌, ◌≡◌, ℕ, ◌%◌, eqb}
use Rattle.script.specs.Answers.{Answer}
use Rattle.script.specs.Machine.{Buf, Ans}
use Rattle.machine.specs.Suspended.{machine_of}
use Rattle.proof_bus_time.specs.Four.{Four, Turn, called}

-- each driver's state and slot buffer by its number, and the record
pub record LentFour : Type 0 where
  pub bytes : ℕ → List ℕ
  pub slots : ℕ → Buf
  pub time : List ℕ

-- what they are
abbrev pub four_of : LentFour → Four
four_of l = record { driver = λ i. machine_of (l.bytes i) (l.slots i); time = l.time }

-- a call that was made: what it answered, the caller's bytes, its slot buffer and the record as the call left them
pub record TurnMade : Type 0 where
  pub turn : Turn
  pub answer : Ans Answer
  pub bytes : List ℕ
  pub slots : Buf
  pub time : List ℕ

-- its contract
abbrev pub CallStep : LentFour → TurnMade → Type 0
CallStep l m = ((m.answer, machine_of m.bytes m.slots), m.time) ≡ called m.turn (four_of l)

abbrev pub left : LentFour → TurnMade → LentFour
left l m = record {
  bytes = λ j. cond (eqb j (m.turn.who % 4)) m.bytes (l.bytes j);
  slots = λ j. cond (eqb j (m.turn.who % 4)) m.slots (l.slots j);
  time = m.time;
}

-- calls one after the other, each as its contract says
abbrev pub Run : LentFour → List TurnMade → Type 0
Run l [] = Unit {0}
Run l (m ∷ ms) = CallStep l m × Run (left l m) ms

abbrev pub turns : List TurnMade → List Turn
turns [] = []
turns (m ∷ ms) = m.turn ∷ turns ms

abbrev pub last : LentFour → List TurnMade → LentFour
last l [] = l
last l (m ∷ ms) = last (left l m) ms
