-- The slice after a poll that brings the slots; the slots after row 1
use Rattle.std.specs.Prelude.{Bool, true, false, cond, List, ◌≡◌, ℕ}
use Rattle.std.proofs.Common.{true≢false, ap, sym, ◌∙◌}
use Rattle.state.specs.Driver.{Driver}
use Rattle.script_ops.specs.Answers.{lent_after}
use Rattle.script.specs.Script.{run}
use Rattle.script.specs.Answers.{Refused}
use Rattle.script.specs.Calls.{Slotted, slotted, slotted_code}
use Rattle.script.specs.Machine.{Buf, ended, begin}
use Rattle.script_ops.specs.Concrete.{concrete}
use Rattle.machine.specs.declared.Suspended.{Suspended}
use Rattle.machine.specs.Suspended.{machine_at, drive, halts, slots_fit, BufferUnchangedOnRow1, lent_by}
use Rattle.machine.specs.SuspendedLaws.{lent-halts}
use Rattle.answer.specs.Goes.{StepResult}
use Rattle.machine.specs.Rows.{is_idle}
use Rattle.machine.proofs.RowsLaws.{slotted-idle}

module _ (o : Slotted) (u : Suspended) (d : Driver) (a b : Buf) (out : List ℕ) where
  abbrev misfitted : StepResult
  misfitted = (ended (Refused 1), machine_at u d a)

  abbrev unless_busy : Bool → StepResult
  unless_busy x = cond x (halts (run concrete (slotted_code o) (d, b))) (ended (Refused 3), machine_at u d b)

  abbrev fitting : Bool → StepResult
  fitting x = cond x (unless_busy (is_idle u)) misfitted

  abbrev lent : StepResult → List ℕ
  lent x = lent_by x.0 out

  pub lent-done : slots_fit d b ≡ true → is_idle u ≡ true
      → lent_by (drive (begin (slotted o)) (machine_at u d a) b).0 out
      ≡ lent_after (run concrete (slotted_code o) (d, b)) out
  lent-done f i = ap lent (slotted-idle o u d a b ∙ (ap fitting f ∙ ap unless_busy i))
      ∙ lent-halts (run concrete (slotted_code o) (d, b)) out

  pub lent-busy : slots_fit d b ≡ true → is_idle u ≡ false → lent_by (drive (begin (slotted o)) (machine_at u d a) b).0 out
      ≡ out
  lent-busy f i = ap lent (slotted-idle o u d a b ∙ (ap fitting f ∙ ap unless_busy i))

  pub lent-misfit : slots_fit d b ≡ false → lent_by (drive (begin (slotted o)) (machine_at u d a) b).0 out ≡ out
  lent-misfit f = ap lent (slotted-idle o u d a b ∙ ap fitting f)

-- a slot buffer that fits is none of row 1's
pub as_lent : (d : Driver) (b after : Buf) → slots_fit d b ≡ true → BufferUnchangedOnRow1 d b after
as_lent d b after f h = absurd (true≢false (sym f ∙ h))
