-- Laws on the definitions of Codec.antt
use Rattle.std.specs.Prelude.{◌≡◌, refl, Bool, ℕ}
use Rattle.regs.specs.declared.Dir.TheVariants.{Out, In}
use Rattle.script.specs.declared.Transfer.{Transfer}
use Rattle.script_ops.specs.NumbersLaws.{flag-back, dir-back}
use Rattle.interrupt.specs.declared.nak.Nak.{Nak}
use Rattle.interrupt.specs.declared.nak.Nak.TheVariants as nak
use Rattle.interrupt.specs.declared.settle.Settle.{Settle}
use Rattle.interrupt.specs.declared.settle.Settle.TheVariants as settle
use Rattle.interrupt.specs.declared.toggled.Toggled.{Toggled}
use Rattle.interrupt.specs.declared.toggled.Toggled.TheVariants as toggled
use Rattle.isochronous.specs.declared.complete.Complete.{Complete}
use Rattle.isochronous.specs.declared.complete.Complete.TheVariants as complete
use Rattle.isochronous.specs.declared.sof.Sof.{Sof}
use Rattle.isochronous.specs.declared.sof.Sof.TheVariants as sof
use Rattle.isochronous.specs.declared.late.Late.{Late}
use Rattle.isochronous.specs.declared.out.Check.{Check}
use Rattle.isochronous.specs.declared.out.Check.TheVariants as check
use Rattle.interrupt.specs.declared.Point.{Point}
use Rattle.interrupt.specs.declared.Point.TheVariants as point
use Rattle.interrupt.specs.Codec.{as_numbers, encode, decode}

late-back : (setup : Bool) (x : Transfer) (iso : Bool) (frame m : ℕ) (q : Complete)
    → decode (encode (point.Late setup x iso frame (record { rest = m; completing = q })))
    ≡ point.Late setup x iso frame (record { rest = m; completing = q })
unfolding encode decode
late-back setup x iso frame m (complete.Sent e) = simp flag-back
late-back setup x iso frame m (complete.Loaded e) = simp flag-back

pub decode-encode : (p : Point) → decode (encode p) ≡ p
unfolding encode decode
decode-encode point.Frame = refl
decode-encode point.Flags = refl
decode-encode (point.BusRst f) = refl
decode-encode (point.Suspend f) = refl
decode-encode (point.Fifo f) = refl
decode-encode (point.Host f) = refl
decode-encode (point.Mis setup) = simp flag-back
decode-encode (point.St setup busy) = simp flag-back
decode-encode (point.Len setup busy st) = simp flag-back
decode-encode (point.Nak setup x (nak.Word Out)) = simp flag-back
decode-encode (point.Nak setup x (nak.Word In)) = simp flag-back
decode-encode (point.Nak setup x nak.Wrote) = simp flag-back
decode-encode (point.Released setup x) = simp flag-back
decode-encode (point.Settle setup x (settle.IsoLook n)) = simp flag-back
decode-encode (point.Settle setup x settle.IsoSt) = simp flag-back
decode-encode (point.Settle setup x (settle.IsoLen now)) = simp flag-back
decode-encode (point.Settle setup x (settle.BulkLook n)) = simp flag-back
decode-encode (point.Settle setup x settle.BulkLen) = simp flag-back
decode-encode (point.Settle setup x settle.Mis) = simp flag-back
decode-encode (point.Settle setup x settle.Flags) = simp flag-back
decode-encode (point.Settle setup x settle.St) = simp flag-back
decode-encode (point.Settle setup x (settle.Nak st (nak.Word Out))) = simp flag-back
decode-encode (point.Settle setup x (settle.Nak st (nak.Word In))) = simp flag-back
decode-encode (point.Settle setup x (settle.Nak st nak.Wrote)) = simp flag-back
decode-encode (point.FrameNo setup x iso) = simp flag-back
decode-encode (point.Sof setup x iso frame (sof.Mis e m)) = simp flag-back
decode-encode (point.Sof setup x iso frame (sof.St e m)) = simp flag-back
decode-encode (point.Sof setup x iso frame (sof.Completing m (complete.Sent e))) = simp flag-back
decode-encode (point.Sof setup x iso frame (sof.Completing m (complete.Loaded e))) = simp flag-back
decode-encode (point.Sof setup x iso frame sof.Callback) = simp flag-back
decode-encode (point.Late setup x iso frame p) = late-back setup x iso frame p.rest p.completing
decode-encode (point.SofArm setup x iso frame (sof.Mis e m)) = simp flag-back
decode-encode (point.SofArm setup x iso frame (sof.St e m)) = simp flag-back
decode-encode (point.SofArm setup x iso frame (sof.Completing m (complete.Sent e))) = simp flag-back
decode-encode (point.SofArm setup x iso frame (sof.Completing m (complete.Loaded e))) = simp flag-back
decode-encode (point.SofArm setup x iso frame sof.Callback) = simp flag-back
decode-encode (point.Flip d setup x iso) = simp (flag-back, dir-back)
decode-encode (point.Flipped d setup x iso) = simp (flag-back, dir-back)
decode-encode (point.Toggled d setup x iso (toggled.Look n)) = simp (flag-back, dir-back)
decode-encode (point.Toggled d setup x iso toggled.Word) = simp (flag-back, dir-back)
decode-encode (point.Toggled d setup x iso toggled.AckRead) = simp (flag-back, dir-back)
decode-encode (point.Toggled d setup x iso toggled.Acked) = simp (flag-back, dir-back)
decode-encode (point.Completing setup x iso (complete.Sent e)) = simp flag-back
decode-encode (point.Completing setup x iso (complete.Loaded e)) = simp flag-back
decode-encode (point.Check setup x iso (check.St e m)) = simp flag-back
decode-encode (point.Check setup x iso (check.Armed e m)) = simp flag-back
decode-encode (point.MovedRead d setup) = simp (flag-back, dir-back)
decode-encode (point.MovedWrote d setup) = simp (flag-back, dir-back)
decode-encode point.SetupRx = refl
decode-encode point.SetupTx = refl
decode-encode point.SetupReleased = refl

-- `encode` is shut elsewhere
pub by-table : (p : Point) → encode p ≡ as_numbers p
unfolding encode
by-table p = refl
