-- An interrupt's continue, with the record of bus time, which stays
use Rattle.std.specs.Prelude.{List, [], ◌≡◌, refl, ℕ}
use Rattle.std.proofs.Common.{sym, ap, subst, ◌∙◌}
use Rattle.state.specs.State.{view, saved}
use Rattle.state.specs.Driver.{Driver}
use Rattle.script.specs.Answers.{Answer}
use Rattle.script.specs.Machine.{Buf, Machine, continue}
use Rattle.answer.specs.declared.Step.{Step}
use Rattle.script_ops.specs.Numbers.{INTERRUPT}
use Rattle.machine.specs.Suspended.{machine_of, drive, answer_of}
use Rattle.answer.specs.Goes.{StepResult}
use Rattle.calls.specs.Sharing.{shared_call, going, time_after}
use Rattle.calls.specs.SharingLaws.{settles}
use Rattle.calls.specs.StaysLaws.{interrupt-stays}

pub interrupt-shared : (i v : ℕ) (xs t : List ℕ) (a b : Buf) (y : StepResult) → (saved xs).tag ≡ INTERRUPT
    → y ≡ drive (continue v) (machine_of xs a) b → (y, t) ≡ shared_call i (continue v) (machine_of xs a) t b
interrupt-shared i v xs t a b y h e =
    settles i (continue v) (machine_of xs a) t b y t refl e
    (interrupt-stays i t v (saved xs) (view xs) a b h ∙ ap (λ (z : StepResult). time_after i going z.0 (view xs) t)
    (sym e))

-- the same answer by another name
pub named : (r t : Step) → r ≡ t → (d : Driver) (m : Machine Answer Driver) (z : StepResult)
    → ◌≡◌ {A = StepResult} (answer_of t [] d, m) z → ◌≡◌ {A = StepResult} (answer_of r [] d, m) z
named r t e d m z k = subst (λ (u : Step). ◌≡◌ {A = StepResult} (answer_of u [] d, m) z) (sym e) k
