-- The interrupt's parts that are not the endpoint's: isochronous endpoints, the endpoints of other tokens, EP0
use Rattle.std.specs.Prelude.{Bool, true, ◌≡◌, eqb}
use mathlib.Core.List.{List, [], ◌∷◌}
use Rattle.std.proofs.Math.Path.{refl}
use Prim.Native.Nat.{ℕ, zero, suc}
use Rattle.regs.specs.declared.Reg.TheVariants.{EpRxCtrl, EpTxCtrl}
use Rattle.regs.specs.declared.Dir.{Dir}
use Rattle.regs.specs.declared.Dir.TheVariants.{Out, In}
use Rattle.regs.specs.Registers.{ctrl_of}
use Rattle.script.specs.Cells.{ep-cell, globals-cell}
use Rattle.script.specs.Statics.{with_last_frame, with_armed}
use Rattle.script_ops.specs.Concrete.{concrete}
use Rattle.proof_usb20.specs.WalksLaws.{Each}
use Rattle.proof_usb20.specs.Watch.{at_end}
use Rattle.bits.specs.Walk.{set_bits}
use Rattle.regs.specs.declared.Token.{Token}
use Rattle.regs.specs.declared.Token.TheVariants as tok
use Rattle.regs.specs.ControlWord.{is_data1}
use Rattle.regs.specs.Status.{endpoint}
use Rattle.frame.specs.Usb20.{index_of, frame_of}
use Rattle.frame.specs.Advance.{previous}
use Rattle.script.specs.declared.Transfer.{Transfer}
use Rattle.script.specs.Statics.{completed, with_len, with_ready, with_tog, with_sof_frame, with_setup, flag, every_iso_in}
use Rattle.script.specs.Statics.{iso_outs}
use Rattle.script.specs.IsoIn.{first_in_frame, iso_in_complete, unseen, sof_one, sof_walk, on_sof, late_walk, iso_in_completions}
use Rattle.script.specs.IsoOut.{arrives, check_walk, iso_out_check}
use Rattle.script.specs.Handler.{toggled, received, sent, sof_arm, dispatch, moved_on, ep0_moved_on, on_setup, iso_in_arm}
use Rattle.proof_usb20.specs.CalmLaws.{LeavesTrack, Else, Idle, Off, idle_read, off-idle, off_read, only}
use Rattle.proof_usb20.specs.CalmLaws.{put_frame}
use Rattle.proof_usb20.specs.CalmLaws.{put_hears, put_kept, q_act_as, q_bind, q_callback, q_ep, q_globals, q_got}
use Rattle.proof_usb20.specs.CalmLaws.{q_hand, q_if, q_ins, q_is, q_look, q_looks, q_modify, q_outs, q_reg, q_ret}
use Rattle.proof_usb20.specs.CalmLaws.{q_test, q_wakes, q_when, q_write}

module _ (D : Dir) (E : ℕ) where
  -- ---- isochronous IN

  pub q_complete : {m : Bool} {i : Bool} (e : ℕ) → (m ≡ true → Else D E In e)
      → LeavesTrack D E m (Idle D E) (iso_in_complete {i = i} e)
  q_complete e o = (q_bind D E) ((q_act_as D E) refl (λ _. tt) (q_ret D E))
      (λ _. (q_bind D E) ((q_bind D E) ((q_is D E) (λ _. (q_ret D E))) (λ b. (q_test D E)
      ((q_bind D E) ((q_hand D E) (q_ret D E)) (λ _. (q_bind D E) ((q_look D E) (λ _. (q_ret D E)))
      (λ _. (q_write D E) (q_ret D E))))
      ((q_write D E) (q_ret D E)))) (λ _. (q_wakes D E) In e o))

  q-first : {m : Bool} {i : Bool} (e frame : ℕ) → LeavesTrack D E m (Idle D E) (first_in_frame {i = i} e frame)
  q-first e frame = record {
    goes = λ w s z k. at_end (
      refl,
      (put_frame D E) In e frame s,
      (put_kept D E) (ep-cell In e) (with_last_frame frame (concrete.get (ep-cell In e) s)) s k,
      (put_hears D E) (ep-cell In e) (with_last_frame frame (concrete.get (ep-cell In e) s)) s,
    );
  }

  q-unseen : {m : Bool} {i : Bool} (frame e : ℕ) → (m ≡ true → Else D E In e)
      → LeavesTrack D E m (Idle D E) (unseen {i = i} frame e)
  q-unseen frame e o = (q_bind D E)
      ((q_modify D E) (ep-cell In e) (with_last_frame (frame_of (previous (index_of frame))))
      (λ s. (put_frame D E) In e (frame_of (previous (index_of frame))) s)) (λ _. q_complete e o)

  q-sof-one : {m : Bool} {i : Bool} (frame e : ℕ) → (m ≡ true → Else D E In e)
      → LeavesTrack D E m (Idle D E) (sof_one {i = i} frame e)
  q-sof-one frame e o = (q_bind D E) ((q_got D E) (ep-cell In e))
      (λ s. (q_test D E) (q_ret D E)
      ((q_bind D E) ((idle_read D E) refl refl (λ _. (q_ret D E))) (λ m. (q_test D E) (q-unseen frame e o)
      ((q_bind D E) ((idle_read D E) refl refl (λ _. (q_ret D E)))
      (λ st. (q_test D E) (q_ret D E) (q-unseen frame e o))))))

  q-sof-walk : {m : Bool} {i : Bool} (frame : ℕ) (es : List ℕ) → Each (λ e. m ≡ true → Else D E In e) es
      → LeavesTrack D E m (Idle D E) (sof_walk {i = i} frame es)
  unfolding sof_walk
  q-sof-walk frame [] o = (q_ret D E)
  q-sof-walk frame (e ∷ es) o = (q_bind D E) (q-sof-one frame e o.0) (λ _. q-sof-walk frame es o.1)

  pub q-sof : {m : Bool} {i : Bool} (frame : ℕ) → LeavesTrack D E m (Idle D E) (on_sof {i = i} frame)
  q-sof frame = (q_bind D E) ((q_globals D E) (with_sof_frame frame))
      (λ _. (q_ins D E) (λ g o. (q_bind D E) (q-sof-walk frame (set_bits (every_iso_in g)) o)
      (λ _. (q_bind D E) ((q_got D E) globals-cell) (λ g. (q_when D E) ((q_callback D E) (q_ret D E))))))

  pub q-late : {m : Bool} {i : Bool} (frame : ℕ) (es : List ℕ) → Each (λ e. m ≡ true → Else D E In e) es
      → LeavesTrack D E m (Idle D E) (late_walk {i = i} frame es)
  unfolding late_walk
  q-late frame [] o = (q_ret D E)
  q-late frame (e ∷ es) o = (q_bind D E) ((q_bind D E) (q-first e frame) (λ b. (q_when D E) (q_complete e o.0)))
      (λ _. q-late frame es o.1)

  pub q-iso-in : {m : Bool} {i : Bool} (e frame : ℕ) → (m ≡ true → Else D E In e)
      → LeavesTrack D E m (Idle D E) (iso_in_arm {i = i} e frame)
  q-iso-in e frame o = (q_bind D E) ((q_got D E) globals-cell)
      (λ g. (q_test D E) (q_ret D E) ((q_bind D E) (q-first e frame) (λ b. (q_when D E) (q_complete e o))))

  pub q-completions : {m : Bool} {i : Bool} (n e : ℕ) → (m ≡ true → Else D E In e)
      → LeavesTrack D E m (Idle D E) (iso_in_completions {i = i} n e)
  unfolding iso_in_completions
  q-completions zero e o = (q_ret D E)
  q-completions (suc n) e o = (q_bind D E) (q_complete e o) (λ _. q-completions n e o)

  -- ---- isochronous OUT

  q-arrives : {m : Bool} {i : Bool} (e n : ℕ) → (m ≡ true → Else D E Out e)
      → LeavesTrack D E m (Idle D E) (arrives {i = i} e n)
  q-arrives e n o = (q_bind D E) ((q_hand D E) (q_ret D E)) (λ _. (q_wakes D E) Out e o)

  q-walk : {m : Bool} {i : Bool} (x : Transfer) (iso : Bool) (es : List ℕ) → Each (λ e. m ≡ true → Else D E Out e) es
      → LeavesTrack D E m (Idle D E) (check_walk {i = i} x iso es)
  unfolding check_walk
  q-walk x iso [] o = (q_ret D E)
  q-walk x iso (e ∷ es) o = (q_bind D E)
      ((q_bind D E) ((q_is D E) (λ _. (q_ret D E)))
      (λ b. (q_when D E) ((q_test D E) (q-arrives e x.len o.0)
      ((q_bind D E) ((idle_read D E) refl refl (λ _. (q_ret D E)))
      (λ st. (q_test D E) (q_ret D E) ((q_bind D E) ((q_look D E) (λ _. (q_ret D E))) (λ n. q-arrives e n o.0)))))))
      (λ _. q-walk x iso es o.1)

  pub q-check : {m : Bool} {i : Bool} (x : Transfer) (iso : Bool)
      → LeavesTrack D E m (Idle D E) (iso_out_check {i = i} x iso)
  q-check x iso = (q_outs D E) (λ g o. q-walk x iso (set_bits (iso_outs g)) o)

  pub q-sof-arm : {m : Bool} {i : Bool} (frame : ℕ) → LeavesTrack D E m (Idle D E) (sof_arm {i = i} frame)
  q-sof-arm frame = (q_bind D E) ((q_got D E) globals-cell) (λ g. (q_when D E) (q-sof frame))

  -- ---- another endpoint's toggle

  pub q-toggled : {m : Bool} {i : Bool} (d : Dir) (e : ℕ) → Else D E d e
      → LeavesTrack D E m (Off D E) (toggled {i = i} d e)
  q-toggled d e o = (q_bind D E) ((only D E) (off-idle D E) ((q_looks D E) 2001))
      (λ _. (q_bind D E) ((off_read D E) (λ _. (q_ret D E)))
      (λ word. (q_bind D E) ((q_got D E) (ep-cell d e)) (λ s. (q_test D E)
      ((q_bind D E) ((q_when D E) ((q_reg D E) (ctrl_of d) e _)) (λ _. (q_ret D E)))
      ((q_bind D E) ((q_ep D E) d e (λ s. with_armed 0 (with_tog (flag (is_data1 word)) s)) o) (λ _. (q_ret D E))))))

  pub q-received : {m : Bool} {i : Bool} (e n : ℕ) → Else D E Out e → LeavesTrack D E m (Off D E) (received {i = i} e n)
  q-received e n o = (q_bind D E) ((q_ep D E) Out e (λ s. completed (with_len n s)) o)
      (λ _. (q_wakes D E) Out e (λ _. o))

  pub q-sent : {m : Bool} {i : Bool} (e : ℕ) → Else D E In e → LeavesTrack D E m (Off D E) (sent {i = i} e)
  q-sent e o = (q_bind D E) ((q_ep D E) In e (with_ready 1) o) (λ _. (q_wakes D E) In e (λ _. o))

  -- ---- EP0's

  module _ (o : (d : Dir) → Else D E d 0) where
    q-moved : {m : Bool} {i : Bool} (d : Dir) → LeavesTrack D E m (Off D E) (moved_on {i = i} d)
    q-moved d = (q_bind D E) ((q_got D E) (ep-cell d 0))
        (λ s. (q_when D E)
        ((q_bind D E) ((q_reg D E) (ctrl_of d) 0 _) (λ _. (q_bind D E) ((q_ep D E) d 0 completed (o d))
        (λ _. (q_wakes D E) d 0 (λ _. o d)))))

    pub q-ep0-moved : {m : Bool} {i : Bool} (t : Token) → LeavesTrack D E m (Off D E) (ep0_moved_on {i = i} t)
    q-ep0-moved tok.Out = q-moved In
    q-ep0-moved tok.In = q-moved Out
    q-ep0-moved tok.Sof = (q_ret D E)
    q-ep0-moved tok.Setup = (q_ret D E)

    pub q-setup : {m : Bool} {i : Bool} → LeavesTrack D E m (Off D E) (on_setup {i = i})
    q-setup = (q_bind D E) ((q_write D E) (q_ret D E))
        (λ _. (q_bind D E) ((q_write D E) (q_ret D E))
        (λ _. (q_bind D E) ((q_look D E) (λ _. (q_ret D E)))
        (λ low. (q_bind D E) ((q_look D E) (λ _. (q_ret D E))) (λ high.
        (q_bind D E) ((q_ep D E) Out 0 _ (o Out)) (λ _. (q_bind D E) ((q_ep D E) In 0 _ (o In))
        (λ _. (q_bind D E) ((q_globals D E) (with_setup 1 low high)) (λ _. (q_bind D E) ((q_write D E) (q_ret D E))
        (λ _. (q_bind D E) ((q_wakes D E) Out 0 (λ _. o Out)) (λ _. (q_wakes D E) In 0 (λ _. o In))))))))))

    -- what a token completes that is not the endpoint's
    pub q-dispatch : {m : Bool} {i : Bool} (t : Token) (x : Transfer) (iso : Bool) (frame : ℕ)
        → (t ≡ tok.Out → Else D E Out (endpoint x.st)) → (t ≡ tok.In → Else D E In (endpoint x.st))
        → LeavesTrack D E m (Off D E) (dispatch {i = i} t x iso frame)
    q-dispatch tok.Sof x iso frame h k = (only D E) (off-idle D E) (q-sof-arm frame)
    q-dispatch tok.Out x iso frame h k = (q_if D E) iso (λ _. (q_ret D E)) (λ z. (q_if D E) (eqb (endpoint x.st) 0)
        (λ q. (q_when D E) ((q_bind D E) ((q_reg D E) EpRxCtrl 0 _) (λ _. q-received 0 x.len (o Out))))
        (λ _. (q_bind D E) (q-toggled Out (endpoint x.st) (h refl))
        (λ b. (q_when D E) (q-received (endpoint x.st) x.len (h refl)))))
    q-dispatch tok.In x iso frame h k = (q_if D E) iso
        (λ _. (only D E) (off-idle D E) (q-iso-in (endpoint x.st) frame (λ _. k refl)))
        (λ z. (q_if D E) (eqb (endpoint x.st) 0)
        (λ q. (q_bind D E) ((q_reg D E) EpTxCtrl 0 _) (λ _. (q_bind D E) ((q_ep D E) In 0 (with_armed 0) (o In))
        (λ _. q-sent 0 (o In))))
        (λ _. (q_bind D E) (q-toggled In (endpoint x.st) (k refl))
        (λ b. (q_when D E) (q-sent (endpoint x.st) (k refl)))))
    q-dispatch tok.Setup x iso frame h k = (q_ret D E)
