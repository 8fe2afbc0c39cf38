-- A call is a step of demand 3 (`CallStep`, SharedPage.antt) and saves what account 1 says (`Saves`, SavedPage.antt),
-- for each way in which calls are lent their bytes: xs are the state's bytes before it, ys those after it, x is what it
-- answered. It holds whatever slot buffer the run has (a), and for whichever of the four drivers (i). Definitions
use Rattle.std.specs.Prelude.{cond, List, ◌≡◌, ℕ, eqb}
use Rattle.state.specs.State.{view}
use Rattle.script.specs.Answers.{Answer}
use Rattle.script.specs.Calls.{Config, Op, start_row}
use Rattle.script.specs.Machine.{Buf, Call, start, question, Question, Ans, told}
use Rattle.machine.specs.Suspended.{lent_or, lent_by, BufferUnchangedOnRow1}
use Rattle.proof_contracts.specs.SharedPage.{MadeShared, CallStep}
use Rattle.proof_contracts.specs.SavedPage.{Saves}

-- the call c, lent the slot buffer b: the record of bus time before and after it, its answer, the state's bytes and the
-- run's slot buffer
abbrev pub made : Call Config Op → Buf → List ℕ → List ℕ → Ans Answer → List ℕ → Buf → MadeShared
made c b time time' x ys slots =
    record { event = record { call = c; lent = b }; before = time; answer = x; bytes = ys; slots = slots; time = time' }

-- it brings neither the slot buffer nor the record: both stay as they stand then (b, time)
pub record IsStep (c : Call Config Op) (xs : List ℕ) (x : Buf → Ans Answer) (ys : List ℕ) : Type 0 where
  pub did : (i : ℕ) (a b : Buf) (time : List ℕ) → CallStep i xs a (made c b time time (x b) ys b)
  pub saves : (b : Buf) → Saves c (x b) xs ys

-- it brings the slot buffer: b before it, b' after it; where its length is wrong (row 1) the run's own stays, and the
-- lent one is left as it was. The record stays
pub record IsStepLent (c : Call Config Op) (xs : List ℕ) (x : Ans Answer) (ys : List ℕ) (b b' : Buf) : Type 0 where
  pub did : (i : ℕ) (a : Buf) (time : List ℕ) → CallStep i xs a (made c b time time x ys (lent_or (view xs) b b' a))
  pub saves : Saves c x xs ys
  pub kept : BufferUnchangedOnRow1 (view xs) b b'

-- a poll that brings the slot buffer, which stays, and a slice: out before it; after it, out', with the bytes that the
-- answer brings at its front, or as it was
pub record IsStepInto (c : Call Config Op) (xs : List ℕ) (x : Ans Answer) (ys : List ℕ) (b : Buf) (out out' : List ℕ)
    : Type 0 where
  pub step : IsStepLent c xs x ys b b
  pub slice : out' ≡ lent_by x out

-- it brings both, as driver i: the record before it and after it
pub record IsStepCharged (i : ℕ) (c : Call Config Op) (xs : List ℕ) (x : Ans Answer) (ys : List ℕ) (b b' : Buf)
    (time time' : List ℕ) : Type 0 where
  pub did : (a : Buf) → CallStep i xs a (made c b time time' x ys (lent_or (view xs) b b' a))
  pub saves : Saves c x xs ys
  pub kept : BufferUnchangedOnRow1 (view xs) b b'

-- a start-up by driver i: the slot buffer that it brings is the run's from then on, unless rows 1 and 2 stop it
pub record IsStepStart (i : ℕ) (c : Config) (xs : List ℕ) (x : Ans Answer) (ys : List ℕ) (b : Buf)
    (time time' : List ℕ) : Type 0 where
  pub did : (a : Buf) → CallStep i xs a (made (start c) b time time' x ys (cond (eqb (start_row c b) 0) b a))
  pub saves : Saves (start c) x xs ys

-- a question, answered with n: nothing changes
abbrev pub IsQuestion : Question → List ℕ → ℕ → Type 0
IsQuestion q xs n = IsStep (question q) xs (λ b. told n) xs
