-- Before EP0's start an open or a close, the channel's too, is refused and leaves the machine of calls as it was: runs
-- that differ in these alone are one run
use Rattle.std.specs.Prelude.{Bool, true, false, cond, ◌≡◌, refl, ℕ, eqb}
use Rattle.state.specs.Driver.{Driver}
use Rattle.script.specs.Answers.{Answer}
use Rattle.script.specs.Calls.{aside, Open, Close, calls}
use Rattle.script.specs.Machine.{begin, Pending, idle, busy, misfit, stay, begun}
use Rattle.script_ops.specs.Rings.{St}
use Rattle.machine.specs.Suspended.{driver_of, drive}
use Rattle.proof_isolation.proofs.Standing.{machine_of}

module _ (s : St) (h : eqb s.0.globals.stage 2 ≡ false) where
  -- row 1 of an open, or the call
  by_row : (w : Pending Answer Driver) (e : ℕ) → (begun calls driver_of (λ s. s) (aside (Open e)) (machine_of w s) w
      s.1).1 ≡ machine_of w s → (b : Bool)
      → (cond b (stay calls driver_of 1 (machine_of w s))
      (begun calls driver_of (λ s. s) (aside (Open e)) (machine_of w s) w s.1)).1 ≡ machine_of w s
  by_row w e x true = refl
  by_row w e x false = x

  -- lent the slot buffer as it was left
  pub open-early : (w : Pending Answer Driver) (e : ℕ) → (drive (begin (aside (Open e))) (machine_of w s) s.1).1
      ≡ machine_of w s
  open-early idle e = by_row idle e (rw h refl) (misfit calls driver_of s.0 s.1)
  open-early (busy true a k) e = by_row (busy true a k) e (rw h refl) (misfit calls driver_of s.0 s.1)
  open-early (busy false a k) e = by_row (busy false a k) e refl (misfit calls driver_of s.0 s.1)

  pub close-early : (w : Pending Answer Driver) (e : ℕ) → (drive (begin (aside (Close e))) (machine_of w s) s.1).1
      ≡ machine_of w s
  close-early idle e = rw h refl
  close-early (busy true a k) e = rw h refl
  close-early (busy false a k) e = refl
