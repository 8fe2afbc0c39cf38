-- The flag is cleared and nothing is on the bus: frame_no is asked for, and the interrupt goes on with it. Assumes
-- nothing.
use Rattle.std.specs.Prelude.{Bool, true, List, ◌≡◌, ℕ, length}
use Rattle.std.proofs.Math.Path.{refl}
use Rattle.std.proofs.Common.{sym, ap, ◌∙◌}
use Rattle.regs.specs.declared.Access.TheVariants.{Read}
use Rattle.regs.specs.declared.Reg.TheVariants.{FrameNo}
use Rattle.regs.specs.Registers.{fits_in, number_of}
use Rattle.state.specs.Driver.{Driver}
use Rattle.state.specs.State.{view, saved}
use Rattle.script.specs.declared.Transfer.{Transfer}
use Rattle.script.specs.Handler as script
use Rattle.script.specs.Machine.{Buf}
use Rattle.script.specs.Script.{run}
use Rattle.script_ops.specs.Concrete.{concrete}
use Rattle.interrupt.specs.Settle as settle
use Rattle.interrupt.specs.Continuations.{finish, after_settle, after_release}
use Rattle.interrupt.specs.Laws.{after, settle-ends}
use Rattle.interrupt.specs.Points.{denote, meaning, fits_at}
use Rattle.interrupt.specs.Stands.{Stands, RunsOnWith}
use Rattle.interrupt.specs.Suspended as under
use Rattle.interrupt.specs.declared.Point.TheVariants as point
use Rattle.interrupt.specs.declared.Next.TheVariants as next
use Rattle.interrupt.specs.declared.settle.SettleNext.{SettleNext}
use Rattle.interrupt.specs.declared.settle.SettleNext.TheVariants as settle-to
use Rattle.machine.specs.Suspended.{slots_fit}
use Rattle.answer.specs.declared.Step.TheVariants as step
use Rattle.answer.specs.Parts.{step_of}
use Rattle.answer.specs.Word.{Worded, read_word}
use Rattle.readings.specs.Readings.{Lent, lent, Continues}
use Rattle.readings.specs.Standing.{standing, stands}
use Rattle.readings.specs.PassingLaws.{at-point, goes, passes, still-fit, reads}

module _ (i frame : ℕ) (setup : Bool) (x y : Transfer) (iso : Bool) (xs ys : List ℕ) (b b' : Buf) (time : List ℕ)
    (tagged : (saved xs).tag ≡ 6) (decoded : under.decode (saved xs) ≡ under.Interrupt (point.Released setup x))
    (long : length xs ≡ 2999) (fit : slots_fit (view xs) b ≡ true) (wide : fits_in frame 16 ≡ true) (n : SettleNext)
    (settles : settle.meaning x n (view xs) b ≡ run concrete (script.settle {i = true} x) (view xs, b))
    (ends : n ≡ settle-to.Ends y)
    (asked : meaning (next.Asks (Read FrameNo 0) (point.FrameNo setup y iso)) (view xs) b
    ≡ finish setup (run concrete (after_settle y) (view xs, b))) where
  abbrev there : List ℕ
  there = standing xs (point.FrameNo setup y iso)

  at_there : Stands (read_word (number_of FrameNo) 0) (Read FrameNo 0) (point.FrameNo setup y iso) xs there
  at_there = stands xs long _ (Read FrameNo 0) (point.FrameNo setup y iso) (reads FrameNo)

  free : meaning (next.Asks (Read FrameNo 0) (point.FrameNo setup y iso)) (view xs) b
      ≡ denote (point.Released setup x) 0 (view xs, b)
  unfolding after_release
  free = asked ∙ (settle-ends setup (λ z u. run concrete (after_settle z) u) (view xs) b x n y ends
      ∙ after setup (λ z u. run concrete (after_settle z) u) _ _ settles)

  pub frame-brought : {w : ℕ} → RunsOnWith w (denote (point.FrameNo setup y iso) frame) xs b ys b'
      → Worded w (λ r. (m : Lent) × Continues i 0 (lent xs b time) (step.Asks (Read FrameNo 0)) m
      × Continues i frame m r (lent ys b' time))
  unfolding fits_at
  frame-brought {w} ran = (
    step_of w,
    ran.1.0,
    (
      lent there b time,
      passes i 0 (point.Released setup x) (point.FrameNo setup y iso) (Read FrameNo 0) xs xs there b time
          (record { tagged = tagged; decoded = decoded }) fit refl refl at_there free,
      goes i frame (point.FrameNo setup y iso) there xs ys b b' time (at-point at_there)
          (still-fit (view xs) (view there) b (ap (λ (d : Driver). d.allocator) at_there.viewed) fit) wide
          (sym at_there.viewed) ran.0 ran.1,
    ),
  )
