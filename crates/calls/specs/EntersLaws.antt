-- Laws on the definition of Enters.antt: the call that entered, and the one that a row stopped
use Rattle.std.specs.Prelude.{◌≡◌, false, List, ℕ}
use Rattle.std.proofs.Common.{subst, sym}
use Rattle.state.specs.State.{view}
use Rattle.script.specs.Tree.{Out}
use Rattle.script.specs.Script.{Script, run}
use Rattle.script.specs.Answers.{operation, staged}
use Rattle.script.specs.Calls.{Other, other_code}
use Rattle.script.specs.Machine.{Buf}
use Rattle.script_ops.specs.Rings.{St}
use Rattle.script_ops.specs.Concrete.{concrete}
use Rattle.answer.specs.declared.Step.{Step}
use Rattle.answer.specs.declared.Step.TheVariants as step
use Rattle.machine.specs.Suspended.{SavedByAnswer}
use Rattle.machine.specs.Stands.{StepsTo, halted}
use Rattle.machine.specs.CallContracts.{OtherCall}
use Rattle.machine.proofs.ContractsLaws.{begins, other-passed, other-stopped}
use Rattle.calls.specs.Enters.{Enters}

-- o runs the operation p
module _ (o : Other) (p : Script false ℕ) (xs ys : List ℕ) {n : ℕ} (h : Enters n xs ys)
    (code : (b : Buf) → run concrete (other_code o) (view xs, b)
    ≡ run concrete (staged 2 (operation p)) (view xs, b)) where
  pub entered : n ≡ 0 → (r : Step) (zs : List ℕ) {x : Buf → Out St ℕ} → ((b : Buf) → x b ≡ run concrete p (view ys, b))
      → StepsTo r zs (λ b. halted (x b)) → SavedByAnswer r xs zs → OtherCall o r xs zs
  entered e r zs m c k = other-passed o 2 (operation p) xs h.row code e r zs
      (begins p (view xs) r zs (h.passed e) m c) k

  pub stopped : (n ≡ 0 → ⊥) → OtherCall o (step.Refused n) xs ys
  stopped e = subst (λ (zs : List ℕ). OtherCall o (step.Refused n) xs zs) (sym (h.stopped e))
      (other-stopped o 2 (operation p) xs h.row code e)
