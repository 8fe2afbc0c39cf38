-- The interrupt's parts that are not EP0's
use Rattle.std.specs.Prelude.{Bool, false, cond, List, [], ◌∷◌, ◌≡◌, refl, ℕ, zero, suc, ◌%◌, eqb}
use Rattle.std.proofs.Common.{subst, sym, ◌∙◌, arith, eq-eqb}
use Rattle.bits.specs.Walk.{set_bits}
use Rattle.regs.specs.declared.Dir.{Dir}
use Rattle.regs.specs.declared.Dir.TheVariants.{Out, In}
use Rattle.regs.specs.declared.Token.{Token}
use Rattle.regs.specs.declared.Token.TheVariants as tok
use Rattle.regs.specs.Registers.{ctrl_of}
use Rattle.regs.specs.ControlWord.{is_data1}
use Rattle.regs.specs.Status.{endpoint}
use Rattle.state.specs.declared.Globals.{Globals}
use Rattle.script.specs.declared.Transfer.{Transfer}
use Rattle.script.specs.Cells.{EpCore, Cell, ep-cell, globals-cell}
use Rattle.script.specs.Script.{Script, when, get}
use Rattle.script.specs.Statics.{wake, completed, with_len, with_ready, with_tog, with_armed, with_sof_frame, with_last_frame}
use Rattle.script.specs.Statics.{flag, every_iso_in, iso_outs, modify, modify_ep, modify_reg}
use Rattle.script.specs.IsoIn.{first_in_frame, iso_in_complete, unseen, sof_one, sof_walk, on_sof, late_walk}
use Rattle.script.specs.IsoOut.{arrives, check_walk, iso_out_check}
use Rattle.script.specs.Handler.{looks, toggled, received, sent, sof_arm, dispatch}
use Rattle.script_ops.specs.Concrete.{concrete}
use Rattle.proof_usb20.specs.ExemptLaws.{differ}
use Rattle.proof_book.specs.TransferKindsLaws.{put-steady}
use Rattle.frame.specs.Usb20.{index_of, frame_of}
use Rattle.frame.specs.Advance.{previous}
use Rattle.proof_usb20.specs.Watch.{at_end}
use Rattle.proof_usb20.proofs.QuietLaws.{LeavesLog, steadily, q_ret, q_bind, q_test, q_if, q-read-of, q_write}
use Rattle.proof_usb20.proofs.QuietLaws.{q_callback, other-read}
use Rattle.proof_usb20.proofs.QuietLaws.{q_get, q_is, q_look, q_act, q_hand, q_modify, Other, put_other, put_frame}
use Rattle.proof_usb20.proofs.QuietLaws.{put_kept, setup_of, other_word, other_length_lem, q-every}
use Rattle.proof_usb20.specs.WalksLaws.{Each}

-- ---- small ones

pub q_got : {i : Bool} (c : Cell) → LeavesLog (get {i = i} c)
q_got c = q_get (λ _. q_ret)

pub q_wake : {i : Bool} (d : Dir) (e : ℕ) → LeavesLog (wake {i = i} d e)
q_wake d e = q_act refl q_ret

pub q_when : {i : Bool} {b : Bool} {p : Script i Unit} → LeavesLog p → LeavesLog (when b p)
q_when x = q_test x q_ret

-- an endpoint's number that is not 0
pub not-0 : (st : ℕ) → eqb (endpoint st) 0 ≡ false → Other (endpoint st)
unfolding endpoint
not-0 st h q = let e : st % 16 ≡ 0 = omega (arith, q) in absurd
    (subst (λ (b : Bool). cond b ⊥ (Unit {0})) (sym h ∙ eq-eqb (st % 16) 0 e) tt)

pub q_reg : {i : Bool} (d : Dir) (e : ℕ) (f : ℕ → ℕ) → eqb e 0 ≡ false → LeavesLog (modify_reg {i = i} (ctrl_of d) e f)
q_reg d e f h = q_bind (q-read-of (other-read d e h) (λ _. q_ret)) (λ v. q_write (other_word d e (f v) h) q_ret)

pub q_ep : {i : Bool} (d : Dir) (e : ℕ) (f : EpCore → EpCore) → Other e → LeavesLog (modify_ep {i = i} d e f)
q_ep d e f o = q_modify (ep-cell d e) f (λ s. put_other d e o (f (concrete.get (ep-cell d e) s)) s)

pub q_globals : {i : Bool} (f : Globals → Globals) → ((g : Globals) → setup_of (f g) ≡ setup_of g)
    → LeavesLog (modify {i = i} f)
q_globals f h = q_modify globals-cell f (λ s. put_kept f h s)

-- ---- the waits

pub q_looks : {i : Bool} (n : ℕ) → LeavesLog (looks {i = i} n)
unfolding looks
q_looks zero = q_ret
q_looks (suc n) = q_bind (q-read-of (λ _ _. refl) (λ _. q_ret)) (λ _. q_test q_ret (q_looks n))

-- ---- bulk and interrupt endpoints

pub q-toggled : {i : Bool} (d : Dir) (e : ℕ) → eqb e 0 ≡ false → Other e → LeavesLog (toggled {i = i} d e)
q-toggled d e h o = q_bind (q_looks 2001) (λ _. q_bind (q-read-of (other-read d e h) (λ _. q_ret)) (λ word. q_bind
    (q_got (ep-cell d e)) (λ s. q_test
    (q_bind (q_when (q_reg d e _ h)) (λ _. q_ret))
    (q_bind (q_ep d e (λ s. with_armed 0 (with_tog (flag (is_data1 word)) s)) o) (λ _. q_ret)))))

pub q-received : {i : Bool} (e n : ℕ) → Other e → LeavesLog (received {i = i} e n)
q-received e n o = q_bind (q_ep Out e (λ s. completed (with_len n s)) o) (λ _. q_wake Out e)

pub q-sent : {i : Bool} (e : ℕ) → Other e → LeavesLog (sent {i = i} e)
q-sent e o = q_bind (q_ep In e (with_ready 1) o) (λ _. q_wake In e)

-- ---- isochronous IN

pub q_complete : {i : Bool} (e : ℕ) → eqb e 0 ≡ false → LeavesLog (iso_in_complete {i = i} e)
q_complete e h = q_bind (q_act refl q_ret)
    (λ _. q_bind (q_bind (q_is (λ _. q_ret))
    (λ b. q_test (q_bind (q_hand refl q_ret) (λ _. q_bind (q_look (λ _. q_ret)) (λ n. q_write
    (other_length_lem e n h) q_ret)))
    (q_write (other_length_lem e 0 h) q_ret))) (λ _. q_wake In e))

q-first : {i : Bool} (e frame : ℕ) → LeavesLog (first_in_frame {i = i} e frame)
q-first e frame = record {
  goes = λ w s z k. at_end (
    refl,
    put_frame In e frame s,
    steadily (put-steady (ep-cell In e) (with_last_frame frame (concrete.get (ep-cell In e) s)) s) k,
  );
}

q-unseen : {i : Bool} (frame e : ℕ) → eqb e 0 ≡ false → LeavesLog (unseen {i = i} frame e)
q-unseen frame e h = q_bind
    (q_modify (ep-cell In e) (with_last_frame (frame_of (previous (index_of frame))))
    (λ s. put_frame In e (frame_of (previous (index_of frame))) s)) (λ _. q_complete e h)

q-sof-one : {i : Bool} (frame e : ℕ) → eqb e 0 ≡ false → LeavesLog (sof_one {i = i} frame e)
q-sof-one frame e h = q_bind (q_got (ep-cell In e))
    (λ s. q_test q_ret
    (q_bind (q-read-of (λ _ _. refl) (λ _. q_ret)) (λ m. q_test (q-unseen frame e h) (q_bind (q-read-of (λ _ _. refl)
    (λ _. q_ret)) (λ st. q_test q_ret (q-unseen frame e h))))))

q-sof-walk : {i : Bool} (frame : ℕ) (es : List ℕ) → Each (λ e. eqb e 0 ≡ false) es
    → LeavesLog (sof_walk {i = i} frame es)
unfolding sof_walk
q-sof-walk frame [] h = q_ret
q-sof-walk frame (e ∷ es) h = q_bind (q-sof-one frame e h.0) (λ _. q-sof-walk frame es h.1)

pub q-sof : {i : Bool} (frame : ℕ) → LeavesLog (on_sof {i = i} frame)
q-sof frame = q_bind (q_globals (with_sof_frame frame) (λ _. refl))
    (λ _. q-every (λ g m. q_bind (q-sof-walk frame (set_bits (every_iso_in g)) m)
    (λ _. q_bind (q_got globals-cell) (λ g. q_when (q_callback q_ret)))))

pub q-late : {i : Bool} (frame : ℕ) (es : List ℕ) → Each (λ e. eqb e 0 ≡ false) es
    → LeavesLog (late_walk {i = i} frame es)
unfolding late_walk
q-late frame [] h = q_ret
q-late frame (e ∷ es) h = q_bind (q_bind (q-first e frame) (λ b. q_when (q_complete e h.0)))
    (λ _. q-late frame es h.1)

-- ---- isochronous OUT

q-arrives : {i : Bool} (e n : ℕ) → LeavesLog (arrives {i = i} e n)
q-arrives e n = q_bind (q_hand refl q_ret) (λ _. q_wake Out e)

q-walk : {i : Bool} (x : Transfer) (iso : Bool) (es : List ℕ) → LeavesLog (check_walk {i = i} x iso es)
unfolding check_walk
q-walk x iso [] = q_ret
q-walk x iso (e ∷ es) = q_bind
    (q_bind (q_is (λ _. q_ret)) (λ b. q_when (q_test (q-arrives e x.len)
    (q_bind (q-read-of (λ _ _. refl) (λ _. q_ret)) (λ st. q_test q_ret (q_bind (q_look (λ _. q_ret))
    (λ n. q-arrives e n))))))) (λ _. q-walk x iso es)

pub q-check : {i : Bool} (x : Transfer) (iso : Bool) → LeavesLog (iso_out_check {i = i} x iso)
q-check x iso = q_bind (q_got globals-cell) (λ g. q-walk x iso (set_bits (iso_outs g)))

-- ---- what a token of another endpoint completes

pub q-sof-arm : {i : Bool} (frame : ℕ) → LeavesLog (sof_arm {i = i} frame)
q-sof-arm frame = q_bind (q_got globals-cell) (λ g. q_when (q-sof frame))

pub q-dispatch : {i : Bool} (t : Token) (x : Transfer) (iso : Bool) (frame : ℕ) → eqb (endpoint x.st) 0 ≡ false
    → LeavesLog (dispatch {i = i} t x iso frame)
q-dispatch tok.Sof x iso frame h = q-sof-arm frame
q-dispatch tok.Out x iso frame h = q_test q_ret
    (q_if (eqb (endpoint x.st) 0) (λ z. differ (sym h ∙ z))
    (λ _. q_bind (q-toggled Out (endpoint x.st) h (not-0 x.st h))
    (λ b. q_when (q-received (endpoint x.st) x.len (not-0 x.st h)))))
q-dispatch tok.In x iso frame h = q_test
    (q_bind (q_got globals-cell) (λ g. q_test q_ret (q_bind (q-first (endpoint x.st) frame)
    (λ b. q_when (q_complete (endpoint x.st) h)))))
    (q_if (eqb (endpoint x.st) 0) (λ z. differ (sym h ∙ z))
    (λ _. q_bind (q-toggled In (endpoint x.st) h (not-0 x.st h))
    (λ b. q_when (q-sent (endpoint x.st) (not-0 x.st h)))))
q-dispatch tok.Setup x iso frame h = q_ret
