-- Account 1 of the 22 bytes in which an operation under way is saved: "the state and every lent byte after a call
-- follow from its inputs alone, for refusals too". After every call of every list from an accepted start-up they are
-- the encoding of what is under way, and all zero where nothing is. Definitions only. `code-canonical`
-- (SavedRuns.antt) is the theorem
use Rattle.std.specs.Prelude.{Bool, true, false, ◌||◌, List, [], ◌∷◌, ◌≡◌, ℕ, zero}
use Rattle.state.specs.State.{saved}
use Rattle.state.specs.Fresh.{nothing}
use Rattle.script.specs.Answers.{Answer}
use Rattle.script.specs.Calls.{Config, Op}
use Rattle.script.specs.Calls.{start_row}
use Rattle.script.specs.Calls as calls
use Rattle.script.specs.Kinds.{pacing, is, kind_of}
use Rattle.script.specs.Machine.{Buf, Call, start, begin, continue, question, idle, Ans}
use Rattle.machine.specs.Suspended.{encode, decode, machine_of}
use Rattle.machine.specs.Keeps.{KeptBy}
use Rattle.proof_contracts.specs.SharedPage.{MadeShared, CallStep}

-- a call that neither begins an operation nor goes on with one, nor polls: pacing; open, close and queue; a question
abbrev pub passes : Call Config Op → Bool
passes (start c) = false
passes (begin o) = is (kind_of o) pacing || calls.passes o
passes (continue v) = false
passes (question q) = true

-- what a call's contract says of the saved bytes, xs the state's bytes before it, ys those after it: one that passes
-- leaves them; of all others by the answer (`KeptBy`, machine/specs/Keeps.antt): canonical with an access, all zero at
-- an operation's end, else as they were
abbrev pub SavesAs : Bool → Ans Answer → List ℕ → List ℕ → Type 0
SavesAs true a xs ys = saved ys ≡ saved xs
SavesAs false a xs ys = KeptBy a xs ys

abbrev pub Saves : Call Config Op → Ans Answer → List ℕ → List ℕ → Type 0
Saves c a xs ys = SavesAs (passes c) a xs ys

-- calls of driver i one after the other, from the state's bytes xs and the slot buffer a: by its contract each is a
-- step of the machine of calls (`CallStep`) and saves what it says. Whatever they are lent and whatever they bring
abbrev pub Saving : ℕ → List ℕ → Buf → List MadeShared → Type 0
Saving i xs a [] = Unit {0}
Saving i xs a (m ∷ ms) =
    CallStep i xs a m × Saves m.event.call m.answer xs m.bytes × Saving i m.bytes m.slots ms

pub record Pinned (m : MadeShared) : Type 0 where
  -- the 22 bytes are the encoding of what is under way
  pub encoded : saved m.bytes ≡ encode (decode (saved m.bytes))
  -- where nothing is under way all are zero
  pub zeros : (machine_of m.bytes m.slots).under_way_lem ≡ idle → saved m.bytes ≡ nothing

abbrev pub AllPinned : List MadeShared → Type 0
AllPinned [] = Unit {0}
AllPinned (m ∷ ms) = Pinned m × AllPinned ms

-- after every call of every list from an accepted start-up, whatever bytes the state had before
abbrev pub CodeCanonical : Type 0
CodeCanonical = (i : ℕ) (c : Config) (b : Buf) → start_row c b ≡ zero → (xs : List ℕ) (a : Buf) (first : MadeShared)
    → first.event ≡ record { call = start c; lent = b } → (ms : List MadeShared) → Saving i xs a (first ∷ ms)
    → AllPinned (first ∷ ms)
