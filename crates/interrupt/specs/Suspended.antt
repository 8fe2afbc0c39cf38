-- An interrupt as the saved record says it, and the machine of calls that the lent bytes are while nothing else is
-- under way. Crate `machine` has the same of every operation; its `Lifts` says that the two are one where the tag is an
-- interrupt's
use Rattle.std.specs.Prelude.{true, cond, List, [], ◌≡◌, ℕ, eqb}
use Rattle.regs.specs.declared.Access.{Access}
use Rattle.state.specs.declared.Saved.{Saved}
use Rattle.state.specs.Driver.{Driver}
use Rattle.state.specs.State.{view, saved}
use Rattle.state.specs.Fresh as fresh
use Rattle.script.specs.Tree.{bind_out}
use Rattle.script.specs.Script.{run}
use Rattle.script.specs.Answers.{Answer}
use Rattle.script.specs.Calls.{calls}
use Rattle.script.specs.Machine.{Buf, Pending, idle, busy, Machine, Ans, handed, continued}
use Rattle.script_ops.specs.Numbers.{INTERRUPT}
use Rattle.script_ops.specs.Concrete.{concrete}
use Rattle.interrupt.specs.declared.Point.{Point}
use Rattle.interrupt.specs.Points as handler
use Rattle.interrupt.specs.Codec as handlerCodec
use Rattle.answer.specs.declared.Step.{Step}
use Rattle.answer.specs.declared.Step.TheVariants as step
use Rattle.answer.specs.Goes.{StepResult}
pub use Rattle.answer.specs.Answering.{with_tag, finish, driver_of, halts_as, answer_of}

pub data Suspended : Type 0 where
  Idle : Suspended
  Interrupt : Point → Suspended

abbrev pub as_saved : Suspended → Saved
as_saved Idle = fresh.nothing
as_saved (Interrupt p) = with_tag INTERRUPT (handlerCodec.as_numbers p)

unfoldable pub encode : Suspended → Saved
encode u = as_saved u

unfoldable pub decode : Saved → Suspended
decode c = cond (eqb c.tag INTERRUPT) (Interrupt (handlerCodec.decode c)) Idle

abbrev pub way_of : Suspended → Pending Answer Driver
way_of Idle = idle
way_of (Interrupt p) = busy true (handler.awaits_at p) (λ v t. bind_out (handler.denote p v t)
    (λ n u. run concrete (finish n) u))

abbrev pub machine_at : Suspended → Driver → Buf → Machine Answer Driver
machine_at u d b = record { under_way_lem = way_of u; st = d; buf = b }

abbrev pub machine_of : List ℕ → Buf → Machine Answer Driver
machine_of xs b = machine_at (decode (saved xs)) (view xs) b

-- what a continue comes to, with the number brought
abbrev pub resumed : ℕ → Suspended → Driver → Buf → Ans Answer × Machine Answer Driver
resumed v u d b = continued calls driver_of (λ s. s) v (machine_at u d b) (way_of u) b

-- the access is handed out, and the operation under way
abbrev pub handed_out : Access → Suspended → Driver → Buf → Ans Answer × Machine Answer Driver
handed_out q u d b = (handed q, machine_at u d b)

-- the 22 saved bytes are canonical
abbrev pub Canonical : List ℕ → Type 0
Canonical xs = saved xs ≡ encode (decode (saved xs))

-- the 22 saved bytes after a call, by its answer
abbrev pub SavedByAnswer : Step → List ℕ → List ℕ → Type 0
SavedByAnswer (step.Refused n) xs ys = saved ys ≡ saved xs
SavedByAnswer (step.Asks q) xs ys = Canonical ys
SavedByAnswer (step.Ends n k) xs ys = saved ys ≡ fresh.nothing
SavedByAnswer step.NotYet xs ys = saved ys ≡ saved xs
SavedByAnswer (step.Done n) xs ys = saved ys ≡ saved xs
SavedByAnswer (step.Setup low high) xs ys = saved ys ≡ saved xs
SavedByAnswer (step.Shown at n stamp) xs ys = saved ys ≡ saved xs

-- of an access handed out or an end: whatever was saved before
abbrev pub Stored : Step → List ℕ → Type 0
Stored r ys = (xs : List ℕ) → SavedByAnswer r xs ys

-- the answer r says (`Says`) the access q, the view stays, and all 22 bytes of what is saved are the table's of u
pub record StandsAt (A : Type 0) (Says : A → Step → Type 0) (r : A) (q : Access) (u : Suspended) (xs ys : List ℕ) : Type
    0 where
  pub answered : Says r (step.Asks q)
  pub viewed : view ys ≡ view xs
  pub stored : saved ys ≡ as_saved u

-- a continue, with v brought: the answer and what the call leaves are the machine's, and the 22 bytes are by the answer
pub record Resumes (r : Step) (v : ℕ) (xs : List ℕ) (b : Buf) (ys : List ℕ) (after : Buf) : Type 0 where
  pub called : ◌≡◌ {A = StepResult} (answer_of r [] (view ys), machine_of ys after)
      (resumed v (decode (saved xs)) (view xs) b)
  pub kept : SavedByAnswer r xs ys
