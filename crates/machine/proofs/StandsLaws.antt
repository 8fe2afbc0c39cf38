-- Laws on the definitions of Stands.antt: z is the step that the answer r says
use Rattle.std.specs.Prelude.{true, List, [], ◌≡◌, refl, ℕ}
use Rattle.std.proofs.Common.{◌∙◌, ap, sym, subst}
use Rattle.regs.specs.declared.Access.{Access}
use Rattle.state.specs.State.{view, saved}
use Rattle.script.specs.Tree.{ends}
use Rattle.script.specs.Answers.{Refused}
use Rattle.script.specs.Machine.{Buf}
use Rattle.machine.specs.declared.Suspended.{Suspended}
use Rattle.answer.specs.declared.Step.{Step}
use Rattle.answer.specs.declared.Step.TheVariants as step
use Rattle.machine.specs.Suspended.{decode, halts, machine_of, handed_out, answer_of, SavedByAnswer, Stored}
use Rattle.machine.specs.SuspendedLaws.{by-table, decode-encode}
use Rattle.answer.specs.Goes.{StepResult}
use Rattle.machine.specs.Rows.{is_idle}
use Rattle.machine.proofs.RowsLaws.{ends-idle}
use Rattle.machine.specs.KeepsLaws.{canonical}
use Rattle.machine.specs.Stands.{StandsAt, Stands, StepsTo}
pub use Rattle.answer.specs.Answering.{parts2, parts3, parts4, parts5}

-- all 22 bytes are pinned
pub stored-by : {A : Type 0} {Says : A → Step → Type 0} {r : A} {q : Access} {u : Suspended} {xs ys : List ℕ}
    → StandsAt A Says r q u xs ys → (z : Step) → z ≡ step.Asks q → Stored z ys
stored-by {u = u} {ys = ys} h z e zs = subst (λ (w : Step). SavedByAnswer w zs ys) (sym e)
    (canonical u ys (h.stored ∙ by-table u))

handed : (z : Step) (q : Access) (u : Suspended) (xs ys out : List ℕ) (b : Buf) → z ≡ step.Asks q → view ys ≡ view xs
    → decode (saved ys) ≡ u
    → ◌≡◌ {A = StepResult} (answer_of z out (view ys), machine_of ys b) (handed_out q u (view xs) b)
handed z q u xs ys out b e v k = simp (e, v, k)

-- the access is handed out at u
pub handed_out_lem : {A : Type 0} {Says : A → Step → Type 0} {r : A} {q : Access} {u : Suspended} {xs ys : List ℕ}
    → StandsAt A Says r q u xs ys → (z : Step) → z ≡ step.Asks q → (out : List ℕ) (b : Buf)
    → ◌≡◌ {A = StepResult} (answer_of z out (view ys), machine_of ys b) (handed_out q u (view xs) b)
handed_out_lem {q = q} {u = u} {xs = xs} {ys = ys} h z e out b
    = handed z q u xs ys out b e h.viewed (ap decode (h.stored ∙ by-table u) ∙ decode-encode u)

-- so the call leads there
pub suspends : {r : Step} {q : Access} {u : Suspended} {xs ys : List ℕ} {f : Buf → StepResult} → Stands r q u xs ys
    → ((b : Buf) → handed_out q u (view xs) b ≡ f b) → StepsTo r ys f × Stored r ys
suspends {r} h k = (λ b. handed_out_lem h r h.answered [] b ∙ k b, stored-by h r h.answered)

-- a row stops the call, and nothing is under way
pub refuses : (xs : List ℕ) {n : ℕ} {f : Buf → StepResult} → is_idle (decode (saved xs)) ≡ true
    → ((b : Buf) → halts (ends (Refused n) (view xs, b)) ≡ f b)
    → StepsTo (step.Refused n) xs f × SavedByAnswer (step.Refused n) xs xs
refuses xs {n} i e = (λ b. ends-idle (decode (saved xs)) (view xs) b (Refused n) i ∙ e b, refl)
