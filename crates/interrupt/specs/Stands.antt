-- Where an interrupt's call leaves it: at a point, whose bytes are saved and whose access is the answer; or at its end.
-- An answer is its word
use Rattle.std.specs.Prelude.{true, List, [], ◌≡◌, ℕ}
use Rattle.regs.specs.declared.Access.{Access}
use Rattle.state.specs.State.{view, saved}
use Rattle.script.specs.Tree.{Out, Prog, bind_out}
use Rattle.script.specs.Script.{run}
use Rattle.script.specs.Machine.{Buf}
use Rattle.script_ops.specs.Numbers.{INTERRUPT}
use Rattle.script_ops.specs.Rings.{St}
use Rattle.script_ops.specs.Concrete.{concrete}
use Rattle.interrupt.specs.declared.Point.{Point}
use Rattle.interrupt.specs.Points.{denote}
use Rattle.interrupt.specs.Suspended as under
use Rattle.interrupt.specs.Suspended.{finish, halts_as, machine_of, answer_of, SavedByAnswer, Stored}
use Rattle.interrupt.specs.Suspended.{StandsAt, Resumes}
use Rattle.answer.specs.Goes.{StepResult}
use Rattle.answer.specs.Parts.{step_of}
use Rattle.answer.specs.Word.{Encodes}

-- at a point of the interrupt; the answer is its word
abbrev pub Stands : ℕ → Access → Point → List ℕ → List ℕ → Type 0
Stands r q p xs ys = StandsAt ℕ Encodes r q (under.Interrupt p) xs ys

-- where the rest o of an interrupt stops: at its next access, or at its end
unfoldable pub halted : Out St ℕ → StepResult
halted o = halts_as true (bind_out o (λ n t. run concrete (finish n) t))

-- the answer that the call's word says and the bytes that it leaves are where the rest o stops
pub record Stops (r : ℕ) (ys : List ℕ) (b : Buf) (o : Out St ℕ) : Type 0 where
  pub there : ◌≡◌ {A = StepResult} (answer_of (step_of r) [] (view ys), machine_of ys b) (halted o)

-- the word is its answer's, and by that answer all 22 bytes are pinned; from those before, where a refusal keeps them
abbrev pub Pins : ℕ → List ℕ → Type 0
Pins r ys = Encodes r (step_of r) × Stored (step_of r) ys

abbrev pub PinsFrom : ℕ → List ℕ → List ℕ → Type 0
PinsFrom r xs ys = Encodes r (step_of r) × SavedByAnswer (step_of r) xs ys

-- what each call of the interrupt ensures that runs f from the bytes xs: its word and the bytes ys are where f stops,
-- and pinned. Any slots stay
abbrev pub RunsOn : ℕ → Prog St ℕ → List ℕ → List ℕ → Type 0
RunsOn r f xs ys = ((b : Buf) → Stops r ys b (f (view xs, b))) × Pins r ys

-- with the slots, b before and after it
abbrev pub RunsOnWith : ℕ → Prog St ℕ → List ℕ → Buf → List ℕ → Buf → Type 0
RunsOnWith r f xs b ys after = Stops r ys after (f (view xs, b)) × Pins r ys

-- from a point, whatever number is brought
abbrev pub RunsOnFrom : ℕ → Point → List ℕ → List ℕ → Type 0
RunsOnFrom r p xs ys = ((v : ℕ) (b : Buf) → Stops r ys b (denote p v (view xs, b))) × Pins r ys

abbrev pub RunsOnFromWith : ℕ → Point → List ℕ → Buf → List ℕ → Buf → Type 0
RunsOnFromWith r p xs b ys after = ((v : ℕ) → Stops r ys after (denote p v (view xs, b))) × Pins r ys

-- what is saved is the interrupt's point with this number
pub record AtSite (number : ℕ) (xs : List ℕ) : Type 0 where
  pub tagged : (saved xs).tag ≡ INTERRUPT
  pub numbered : (saved xs).site ≡ number

-- an interrupt's continue, by its word
pub record ResumesByWord (r v : ℕ) (xs : List ℕ) (b : Buf) (ys : List ℕ) (after : Buf) : Type 0 where
  pub worded : Encodes r (step_of r)
  pub resumes : Resumes (step_of r) v xs b ys after
