-- Readings that follow each other, brought by one call: what that is in calls of one access each. The calls are made in
-- turn, as long as the answer hands out a reading of the register that the next number was read from; the first other
-- answer (a write, an end, a refusal) is the last, and the answer of the whole. Definitions only
use Rattle.std.specs.Prelude.{Bool, true, false, ◌&&◌, List, [], ◌∷◌, ◌≡◌, ℕ, zero, suc, eqb}
use Rattle.regs.specs.declared.Access.{Access}
use Rattle.regs.specs.declared.Access.TheVariants.{Read, Write, Receive, Transmit, Ep0Dma, Wait, Callback}
use Rattle.regs.specs.declared.Reg.{Reg}
use Rattle.regs.specs.declared.Reg.TheVariants.{MisSt}
use Rattle.state.specs.State.{view}
use Rattle.script.specs.Every.{same_reg}
use Rattle.script.specs.Calls.{interrupt}
use Rattle.script.specs.Machine.{Buf, begin, continue}
use Rattle.answer.specs.declared.Step.{Step}
use Rattle.answer.specs.declared.Step.TheVariants as step
use Rattle.machine.specs.Suspended.{machine_of, drive, answer_of, lent_or, BufferUnchangedOnRow1, SavedByAnswer}
use Rattle.calls.specs.Sharing.{shared_call}

-- a number that is brought, and the register that it was read from
pub record Reading : Type 0 where
  pub register : Reg
  pub value : ℕ

abbrev pub reading : Reg → ℕ → Reading
reading r v = record { register = r; value = v }

-- what the caller lends: the state's bytes, the slot buffer, the record of bus time
pub record Lent : Type 0 where
  pub bytes : List ℕ
  pub slots : Buf
  pub time : List ℕ

abbrev pub lent : List ℕ → Buf → List ℕ → Lent
lent bytes slots time = record { bytes = bytes; slots = slots; time = time }

abbrev pub reads_of : Reg → Access → Bool
reads_of r (Read q e) = same_reg r q && eqb e 0
reads_of r (Write q e x) = false
reads_of r (Receive e x) = false
reads_of r (Transmit e x) = false
reads_of r (Ep0Dma x) = false
reads_of r (Wait n) = false
reads_of r Callback = false

-- the answer hands out a reading of that register, which no endpoint has
abbrev pub asks_for : Reg → Step → Bool
asks_for r (step.Refused n) = false
asks_for r (step.Asks q) = reads_of r q
asks_for r (step.Ends n k) = false
asks_for r step.NotYet = false
asks_for r (step.Done n) = false
asks_for r (step.Setup low high) = false
asks_for r (step.Shown at n stamp) = false

-- the interrupt's begin, as its contract has it: it brings neither the slot buffer nor the record
pub record Begins (l : Lent) (r : Step) (l' : Lent) : Type 0 where
  pub did : (a b : Buf) → (answer_of r [] (view l'.bytes), machine_of l'.bytes b)
      ≡ drive (begin interrupt) (machine_of l.bytes a) b
  pub saves : SavedByAnswer r l.bytes l'.bytes
  pub slots : l'.slots ≡ l.slots
  pub time : l'.time ≡ l.time

-- a continue of driver i that brings v, as its contract has it
pub record Continues (i v : ℕ) (l : Lent) (r : Step) (l' : Lent) : Type 0 where
  pub did : (a : Buf) → (
    (answer_of r [] (view l'.bytes), machine_of l'.bytes (lent_or (view l.bytes) l.slots l'.slots a)),
    l'.time,
  ) ≡ shared_call i (continue v) (machine_of l.bytes a) l.time l.slots
  pub kept : BufferUnchangedOnRow1 (view l.bytes) l.slots l'.slots
  pub saves : SavedByAnswer r l.bytes l'.bytes

abbrev pub When : Bool → Type 0 → Type 0 → Type 0
When true X Y = X
When false X Y = Y

-- no further call: the answer r and what is lent stay
abbrev pub Over : Step → Lent → Step → Lent → Type 0
Over r l r' l' = (r' ≡ r) × (l' ≡ l)

-- the readings, brought in turn after the answer r; r' is the last one's
abbrev pub Brings : ℕ → List Reading → Step → Lent → Step → Lent → Type 0
Brings i [] r l r' l' = Over r l r' l'
Brings i (v ∷ vs) r l r' l' =
    When (asks_for v.register r) ((x : Step) × (m : Lent) × Continues i v.value l x m × Brings i vs x m r' l')
    (Over r l r' l')

-- the interrupt's begin, then as many readings as are asked for
abbrev pub BeginsWith : ℕ → List Reading → Lent → Step → Lent → Type 0
BeginsWith i vs l r l' = (x : Step) × (m : Lent) × Begins l x m × Brings i vs x m r l'

-- a continue that brings v, then as many readings as are asked for
abbrev pub ContinuesWith : ℕ → ℕ → List Reading → Lent → Step → Lent → Type 0
ContinuesWith i v vs l r l' = (x : Step) × (m : Lent) × Continues i v l x m × Brings i vs x m r l'

-- k looks at mis_st that all read v, and one more that read u: the number that the first of k + 1 continues brings,
-- and the readings of the others
abbrev pub first_look : ℕ → ℕ → ℕ → ℕ
first_look zero v u = u
first_look (suc k) v u = v

abbrev pub further_looks : ℕ → ℕ → ℕ → List Reading
further_looks zero v u = []
further_looks (suc k) v u = reading MisSt (first_look k v u) ∷ further_looks k v u
