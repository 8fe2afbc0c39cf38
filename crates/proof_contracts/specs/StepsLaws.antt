-- From what a contract says to the step: one law for each form of contract
use Rattle.std.specs.Prelude.{List, [], ◌≡◌, refl, ℕ}
use Rattle.std.proofs.Common.{ap, sym, ◌∙◌}
use Rattle.state.specs.State.{view}
use Rattle.state.specs.Driver.{Driver}
use Rattle.script.specs.Answers.{Answer}
use Rattle.script.specs.Calls.{Config, Op}
use Rattle.script.specs.Machine.{Buf, Call, Question, Ans, told, Machine}
use Rattle.answer.specs.declared.Step.{Step}
use Rattle.answer.specs.Questions.{question_of}
use Rattle.machine.specs.Suspended.{machine_of, drive, answer_of, lent_or, lent_by, BufferUnchangedOnRow1}
use Rattle.answer.specs.Goes.{StepResult}
use Rattle.calls.specs.Sharing.{apart, sort_of}
use Rattle.answer.specs.Parts.{step_of, spoken}
use Rattle.answer.specs.Word.{Encodes, Worded}
use Rattle.proof_bus_time.proofs.CodeLaws.{leaves-record}
use Rattle.proof_contracts.specs.SavedPage.{Saves}
use Rattle.proof_contracts.specs.Steps.{IsStep, IsStepLent, IsStepInto, IsQuestion}

-- neither the slot buffer nor the record is brought
pub unlent : {c : Call Config Op} {xs ys : List ℕ} {x : Buf → Ans Answer} → sort_of c ≡ apart
    → ((a b : Buf) → (x b, machine_of ys b) ≡ drive c (machine_of xs a) b) → ((b : Buf) → Saves c (x b) xs ys)
    → IsStep c xs x ys
unlent {c = c} {xs = xs} p h k =
    record {
      did = λ i a b time. ap (λ (z : StepResult). (z, time)) (h a b) ∙ sym
          (leaves-record i c (machine_of xs a) time b p);
      saves = k;
    }

-- the slot buffer is brought
pub lent : {c : Call Config Op} {xs ys : List ℕ} {x : Ans Answer} {b b' : Buf} → sort_of c ≡ apart
    → ((a : Buf) → (x, machine_of ys (lent_or (view xs) b b' a)) ≡ drive c (machine_of xs a) b) → Saves c x xs ys
    → BufferUnchangedOnRow1 (view xs) b b' → IsStepLent c xs x ys b b'
lent {c = c} {xs = xs} {b = b} p h k l =
    record {
      did = λ i a time. ap (λ (z : StepResult). (z, time)) (h a) ∙ sym
          (leaves-record i c (machine_of xs a) time b p);
      saves = k;
      kept = l;
    }

-- what follows of the answer that the machine of calls gives, of the call's own
pub answered : {A : Type 0} {x : Ans Answer} {n : Machine Answer Driver} {y : StepResult} {v : A} (f : Ans Answer → A)
    → (x, n) ≡ y → v ≡ f y.0 → v ≡ f x
answered f e h = h ∙ ap (λ (z : StepResult). f z.0) (sym e)

-- the slot buffer is brought, and a slice
pub filled : {c : Call Config Op} {xs ys out out' : List ℕ} {x : Ans Answer} {b : Buf} → sort_of c ≡ apart
    → ((a : Buf) → (x, machine_of ys (lent_or (view xs) b b a)) ≡ drive c (machine_of xs a) b) → Saves c x xs ys
    → ((a : Buf) → out' ≡ lent_by (drive c (machine_of xs a) b).0 out) → IsStepInto c xs x ys b out out'
filled {out = out} p h k l =
    record { step = lent p h k (λ _. refl); slice = answered (λ (z : Ans Answer). lent_by z out) (h []) (l []) }

-- a question
pub asked : {q : Question} {xs : List ℕ} {n : ℕ} → n ≡ question_of q (view xs) → IsQuestion q xs n
asked {q = q} {xs = xs} h = unlent refl (λ a b. ap (λ (k : ℕ). (told k, machine_of xs b)) h) (λ b. refl)

-- what holds of the answer that a word says
pub worded : (r : ℕ) {P Q : Step → Type 0} → Worded r P → ((step : Step) → P step → Q step) → Worded r Q
worded r w f = (w.0, w.1, f w.0 w.2)

-- the answer as the caller reads it back from the word, with the bytes and the state that the call left: every answer
-- but a setup packet and a packet that is shown, whose bytes and stamp are in the caller's room (`spoken`)
pub read_back : (r : ℕ) (step : Step) (out : List ℕ) (d : Driver) → Encodes r step → spoken step ≡ step
    → answer_of step out d ≡ answer_of (step_of r) out d
unfolding Encodes
read_back r step out d says same = ap (λ (s : Step). answer_of s out d) (sym (says.1 ∙ same))
