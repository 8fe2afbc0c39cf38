-- Where a continue finds an operation, and where a call leaves it: at a point, whose bytes are saved and whose access
-- is the answer. An answer is a step, or a number that says one
use Rattle.std.specs.Prelude.{List, [], ◌≡◌, ℕ}
use Rattle.regs.specs.declared.Access.{Access}
use Rattle.state.specs.State.{view, saved}
use Rattle.script.specs.Tree.{Out, bind_out}
use Rattle.script.specs.Script.{run}
use Rattle.script.specs.Machine.{Buf}
use Rattle.script_ops.specs.Rings.{St}
use Rattle.script_ops.specs.Concrete.{concrete}
use Rattle.machine.specs.declared.Suspended.{Suspended}
use Rattle.answer.specs.declared.Step.{Step}
use Rattle.answer.specs.declared.Step.TheVariants as step
use Rattle.machine.specs.Suspended.{as_saved, decode, finish, halts, machine_of, resumed, answer_of, SavedByAnswer}
use Rattle.machine.specs.Suspended.{Stored}
use Rattle.answer.specs.Goes.{StepResult}
pub use Rattle.answer.specs.Answering.{NoneOf}

-- the answer r says (`Says`) the access q, the view stays, and all 22 bytes of what is saved are the table's of u
pub record StandsAt (A : Type 0) (Says : A → Step → Type 0) (r : A) (q : Access) (u : Suspended) (xs ys : List ℕ) : Type
    0 where
  pub answered : Says r (step.Asks q)
  pub viewed : view ys ≡ view xs
  pub stored : saved ys ≡ as_saved u

-- where the answer is the step itself
abbrev pub Stands : Step → Access → Suspended → List ℕ → List ℕ → Type 0
Stands r q u xs ys = StandsAt Step (λ (x y : Step). x ≡ y) r q u xs ys

-- where the rest o of an operation stops: at its next access, or at its end
abbrev pub halted : Out St ℕ → StepResult
halted o = halts (bind_out o (λ n t. run concrete (finish n) t))

-- with any slots, which stay: what the call answered and left
abbrev pub StepsTo : Step → List ℕ → (Buf → StepResult) → Type 0
StepsTo r ys f = (b : Buf) → ◌≡◌ {A = StepResult} (answer_of r [] (view ys), machine_of ys b) (f b)

-- the operation has ended with n, and all 22 bytes are zero
pub record Ends (r : Step) (n : ℕ) (xs ys : List ℕ) : Type 0 where
  pub there : StepsTo r ys (λ b. halts (run concrete (finish n) (view xs, b)))
  pub stored : Stored r ys

-- what is saved is a point with this tag and number
pub record AtNumber (tag number : ℕ) (xs : List ℕ) : Type 0 where
  pub tagged : (saved xs).tag ≡ tag
  pub numbered : (saved xs).sub ≡ number

-- a continue, with v brought: the answer and what the call leaves are the machine's, and the 22 bytes are by the answer
pub record Resumes (r : Step) (v : ℕ) (xs : List ℕ) (b : Buf) (ys : List ℕ) (after : Buf) : Type 0 where
  pub called : ◌≡◌ {A = StepResult} (answer_of r [] (view ys), machine_of ys after)
      (resumed v (decode (saved xs)) (view xs) b)
  pub kept : SavedByAnswer r xs ys
