-- Pacing after its change
use Rattle.std.specs.Prelude.{Bool, true, false, ◌≡◌, refl, ℕ}
use Rattle.std.proofs.Common.{ap, ◌∙◌}
use Rattle.state.specs.Driver.{Driver}
use Rattle.script.specs.Tree.{Out, ends, bind_out}
use Rattle.script.specs.Script.{Script, ret, ◌>>◌}
use Rattle.script.specs.Answers.{Answer, ok, is_number}
use Rattle.script.specs.Calls.{other, SetPaced}
use Rattle.script.specs.IsoIn.{iso_in_set_paced}
use Rattle.script.specs.Machine.{Buf, ended, begin}
use Rattle.script_ops.specs.Rings.{St}
use Rattle.script_ops.specs.Concrete.{go}
use Rattle.driver.specs.Points.{set_paced}
use Rattle.machine.specs.declared.Suspended.{Suspended}
use Rattle.machine.specs.Suspended.{machine_at, drive, halts}
use Rattle.answer.specs.Goes.{StepResult}
use Rattle.machine.proofs.RowsLaws.{back, numbered-call, accepted, Passes, answered-idle}

abbrev pub pacing : ℕ → Bool → Script false Answer
pacing e on = do
  iso_in_set_paced e on
  ret ok

-- a change that the call answers with `ok`
abbrev answered : Out St Unit → StepResult
answered o = halts (bind_out o (λ _ t. ends ok t))

pub set-paced-begins :
    (u : Suspended) (d after : Driver) (a b : Buf) (e n : ℕ) (on : Bool)
    → Passes 2 u d
    → is_number e ≡ true
    → n ≡ e
    → ends tt (after, b) ≡ go (set_paced n on) d b
    → (ended ok, machine_at u after b) ≡ drive (begin (other (SetPaced e on))) (machine_at u d a) b
set-paced-begins u d after a b e n on h number low change =
    back (numbered-call (SetPaced e on) e (pacing e on) u d a b refl
    ∙ accepted (is_number e) u d b (pacing e on) h number)
    (answered-idle 2 u d after b ok h ∙ (ap answered change ∙ ap (λ (m : ℕ). answered (go (set_paced m on) d b)) low))
