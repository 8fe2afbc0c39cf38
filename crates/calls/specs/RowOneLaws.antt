-- A continue, by row 1. Assumes nothing.
use Rattle.std.specs.Prelude.{true, List, [], ◌≡◌, ℕ}
use Rattle.state.specs.State.{view, saved}
use Rattle.script.specs.Machine.{Buf, continue}
use Rattle.answer.specs.declared.Step.{Step}
use Rattle.machine.specs.Suspended.{decode, machine_of, drive, answer_of, slots_fit, lent_or}
use Rattle.answer.specs.Goes.{StepResult}
use Rattle.machine.specs.GoesLaws.{proceeds}
use Rattle.machine.proofs.RowsLaws.{back}
use Rattle.machine.specs.Stands.{Resumes}

-- the slots are as long as the driver's buffers: the operation goes on
pub slots-fitted : {z : Step} {v : ℕ} {xs ys : List ℕ} {b after : Buf} (a : Buf) → Resumes z v xs b ys after
    → slots_fit (view xs) b ≡ true
    → ◌≡◌ {A = StepResult} (answer_of z [] (view ys), machine_of ys (lent_or (view xs) b after a))
    (drive (continue v) (machine_of xs a) b)
slots-fitted {v = v} {xs = xs} {b = b} a h f = back (proceeds v (decode (saved xs)) (view xs) a b) (simp f h.called)
