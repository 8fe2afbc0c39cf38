-- What is left to run at each point of the interrupt
use Rattle.std.specs.Prelude.{◌≡◌, Bool, true, List, ℕ}
use Rattle.regs.specs.declared.Reg.TheVariants.{IntFg, IntSt, MisSt, RxLen, FrameNo, EpRxCtrl}
use Rattle.regs.specs.Registers.{width_of, fits_in}
use Rattle.regs.specs.Status.{endpoint}
use Rattle.state.specs.Driver.{Driver}
use Rattle.script.specs.Tree as tree
use Rattle.script.specs.Tree.{asks, ends, bind_out}
use Rattle.script.specs.Script.{Script, run, ◌>>◌}
use Rattle.script.specs.Statics.{wake_bus}
use Rattle.script.specs.Machine.{Awaits, nothing, reading, awaited}
use Rattle.script.specs.Handler.{stamped_interrupt}
use Rattle.interrupt.specs.Nak as nak
use Rattle.interrupt.specs.Settle as settle
use Rattle.interrupt.specs.Toggled as toggled
use Rattle.isochronous.specs.Complete as complete
use Rattle.isochronous.specs.Sof as sof
use Rattle.isochronous.specs.Late as late
use Rattle.isochronous.specs.Points as check
use Rattle.script_ops.specs.Rings.{St}
use Rattle.script_ops.specs.Concrete.{concrete}
use Rattle.interrupt.specs.declared.Point.{Point}
use Rattle.interrupt.specs.declared.Point.TheVariants as point
use Rattle.interrupt.specs.declared.Next.{Next}
use Rattle.interrupt.specs.declared.Next.TheVariants as next
use Rattle.interrupt.specs.Continuations.{resultless, after_setup_released, after_setup_tx, after_setup_rx, finish}
use Rattle.interrupt.specs.Continuations.{then_check}
use Rattle.interrupt.specs.Continuations.{after_moved_wrote, after_moved_read, after_check, flip_done}
use Rattle.interrupt.specs.Continuations.{after_flip, after_toggled, after_late, after_sof, after_frame_no, after_settle}
use Rattle.interrupt.specs.Continuations.{after_release, after_nak, after_len, after_st, after_mis, after_host}
use Rattle.interrupt.specs.Continuations.{after_fifo}
use Rattle.interrupt.specs.Continuations.{after_suspend, after_bus_rst, after_flags, after_frame}

-- the operation: `on_interrupt`, 634-819, with the frame reading before it
abbrev pub interrupt : Script true ℕ
interrupt = resultless stamped_interrupt

abbrev pub denote : Point → ℕ → tree.Prog St ℕ
denote point.Frame v t = run concrete (resultless (after_frame v)) t
denote point.Flags v t = run concrete (resultless (after_flags v)) t
denote (point.BusRst f) v t = run concrete (resultless (wake_bus >> after_bus_rst f)) t
denote (point.Suspend f) v t = run concrete (resultless (wake_bus >> after_suspend f)) t
denote (point.Fifo f) v t = run concrete (resultless (after_fifo f)) t
denote (point.Host f) v t = run concrete (resultless (after_host f)) t
denote (point.Mis setup) v t = finish setup (run concrete (after_mis v) t)
denote (point.St setup busy) v t = finish setup (run concrete (after_st busy v) t)
denote (point.Len setup busy st) v t = finish setup (run concrete (after_len busy st v) t)
denote (point.Nak setup x p) v t = finish setup (bind_out (nak.denote x.st p v t)
    (λ _ u. run concrete (after_nak x) u))
denote (point.Released setup x) v t = finish setup (run concrete (after_release x) t)
denote (point.Settle setup x p) v t = finish setup (bind_out (settle.denote x p v t)
    (λ y u. run concrete (after_settle y) u))
denote (point.FrameNo setup x iso) v t = finish setup (run concrete (after_frame_no x iso v) t)
denote (point.Sof setup x iso frame p) v t = finish setup
    (bind_out (sof.denote frame p v t) (λ _ u. run concrete (after_sof x iso frame) u))
denote (point.Late setup x iso frame p) v t = finish setup
    (bind_out (late.denote frame p t) (λ _ u. run concrete (after_late x iso frame) u))
denote (point.SofArm setup x iso frame p) v t = then_check setup x iso (sof.denote frame p v t)
denote (point.Flip d setup x iso) v t = then_check setup x iso (run concrete (after_flip d x.len v) t)
denote (point.Flipped d setup x iso) v t = then_check setup x iso (run concrete (flip_done d x.len) t)
denote (point.Toggled d setup x iso p) v t =
    then_check setup x iso (bind_out (toggled.denote d (endpoint x.st) p v t)
    (λ b u. run concrete (after_toggled d x b) u))
denote (point.Completing setup x iso p) v t = then_check setup x iso (complete.denote p t)
denote (point.Check setup x iso p) v t = finish setup (bind_out (check.denote x iso p v t)
    (λ _ u. run concrete (after_check x) u))
denote (point.MovedRead d setup) v t = finish setup (run concrete (after_moved_read d v) t)
denote (point.MovedWrote d setup) v t = finish setup (run concrete (after_moved_wrote d) t)
denote point.SetupRx v t = run concrete (resultless after_setup_rx) t
denote point.SetupTx v t = run concrete (resultless after_setup_tx) t
denote point.SetupReleased v t = run concrete (resultless after_setup_released) t

abbrev pub meaning : Next → Driver → List ℕ → tree.Out St ℕ
meaning (next.Asks q p) d b = asks q (d, b) (λ v t. denote p v t)
meaning (next.Ends n) d b = ends n (d, b)

-- what a point awaits, and that it is the access handed out with it
abbrev pub awaits_at : Point → Awaits
awaits_at point.Frame = reading (width_of FrameNo)
awaits_at point.Flags = reading (width_of IntFg)
awaits_at (point.BusRst f) = nothing
awaits_at (point.Suspend f) = nothing
awaits_at (point.Fifo f) = nothing
awaits_at (point.Host f) = nothing
awaits_at (point.Mis setup) = reading (width_of MisSt)
awaits_at (point.St setup busy) = reading (width_of IntSt)
awaits_at (point.Len setup busy st) = reading (width_of RxLen)
awaits_at (point.Nak setup x p) = nak.awaits_at p
awaits_at (point.Released setup x) = nothing
awaits_at (point.Settle setup x p) = settle.awaits_at p
awaits_at (point.FrameNo setup x iso) = reading (width_of FrameNo)
awaits_at (point.Sof setup x iso frame p) = sof.awaits_at p
awaits_at (point.Late setup x iso frame p) = nothing
awaits_at (point.SofArm setup x iso frame p) = sof.awaits_at p
awaits_at (point.Flip d setup x iso) = reading (width_of EpRxCtrl)
awaits_at (point.Flipped d setup x iso) = nothing
awaits_at (point.Toggled d setup x iso p) = toggled.awaits_at p
awaits_at (point.Completing setup x iso p) = nothing
awaits_at (point.Check setup x iso p) = check.awaits_at p
awaits_at (point.MovedRead d setup) = reading (width_of EpRxCtrl)
awaits_at (point.MovedWrote d setup) = nothing
awaits_at point.SetupRx = nothing
awaits_at point.SetupTx = nothing
awaits_at point.SetupReleased = nothing

abbrev pub Linked : Next → Type 0
Linked (next.Asks q p) = awaited q ≡ awaits_at p
Linked (next.Ends n) = Unit {0}

-- row 16 turned round: a reading has no bit above its register's width
unfoldable pub fits_at : Point → ℕ → Bool
fits_at point.Frame v = fits_in v (width_of FrameNo)
fits_at point.Flags v = fits_in v (width_of IntFg)
fits_at (point.BusRst f) v = true
fits_at (point.Suspend f) v = true
fits_at (point.Fifo f) v = true
fits_at (point.Host f) v = true
fits_at (point.Mis setup) v = fits_in v (width_of MisSt)
fits_at (point.St setup busy) v = fits_in v (width_of IntSt)
fits_at (point.Len setup busy st) v = fits_in v (width_of RxLen)
fits_at (point.Nak setup x p) v = nak.fits_at p v
fits_at (point.Released setup x) v = true
fits_at (point.Settle setup x p) v = settle.fits_at p v
fits_at (point.FrameNo setup x iso) v = fits_in v (width_of FrameNo)
fits_at (point.Sof setup x iso frame p) v = sof.fits_at p v
fits_at (point.Late setup x iso frame p) v = true
fits_at (point.SofArm setup x iso frame p) v = sof.fits_at p v
fits_at (point.Flip d setup x iso) v = fits_in v (width_of EpRxCtrl)
fits_at (point.Flipped d setup x iso) v = true
fits_at (point.Toggled d setup x iso p) v = toggled.fits_at p v
fits_at (point.Completing setup x iso p) v = true
fits_at (point.Check setup x iso p) v = check.fits_at p v
fits_at (point.MovedRead d setup) v = fits_in v (width_of EpRxCtrl)
fits_at (point.MovedWrote d setup) v = true
fits_at point.SetupRx v = true
fits_at point.SetupTx v = true
fits_at point.SetupReleased v = true
