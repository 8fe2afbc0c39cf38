-- The script's control transfers have the stages of USB 2.0, 8.5.3: the toggle of EP0's control words, which the chip
-- leaves as it is written
use Rattle.std.specs.Prelude.{Bool, true, false, cond, ◌&&◌, List, ◌≡◌, refl, ℕ, zero, suc, ◌<◌, eqb, ltb, length}
use Rattle.std.proofs.Common.{ap, subst, sym, ◌∙◌, arith}
use Rattle.std.proofs.Math.Dec.{eqb-suc-zero}
use Rattle.bits.specs.Bit.{pick}
use Rattle.regs.specs.declared.Access.{Access}
use Rattle.regs.specs.declared.Access.TheVariants.{Read}
use Rattle.regs.specs.declared.Reg.TheVariants.{EpRxCtrl, EpTxCtrl, EpTLen}
use Rattle.regs.specs.declared.Dir.{Dir}
use Rattle.regs.specs.declared.Dir.TheVariants.{Out, In}
use Rattle.regs.specs.Registers.{ctrl_of}
use Rattle.regs.specs.ControlWord as word
use Rattle.regs.specs.ControlWord.{response, toggle, with_response, with_toggle, word_of, nak, flip, nakflip, status}
use Rattle.regs.specs.Status.{endpoint, tog_ok}
use Rattle.script.specs.declared.Transfer.{Transfer}
use Rattle.script.specs.Tree as tree
use Rattle.script.specs.Tree.{ends}
use Rattle.script.specs.Cells.{ep-cell, globals-cell}
use Rattle.script.specs.Script.{Ops, run, Script, when, ◌>>=◌, ◌>>◌}
use Rattle.script.specs.Statics.{is_on, modify_reg, modify_ep, completed, wake}
use Rattle.script.specs.Answers.{Answer, Refused, End, NotYet, Done, Shown}
use Rattle.script.specs.Handler.{out_naks, in_naks, nak_non_iso, out_arm, in_arm, received, moved_on}
use Rattle.script.specs.Control.{acks, begin_data_out, begin_data_in, begin_accept, begin_accept_set_address}
use Rattle.script.specs.Every.{Chip, Every, at_end, at_ask, Throughout, same_reg, on_write, OnWrite}
use Rattle.script.specs.EveryLaws.{every_bind, every-cond}
use Rattle.script.specs.Usb20Toggles.{Pid, DATA0, DATA1, other}
use Rattle.script.specs.Usb20Control.{data_pid, status_pid, status_length, status_dir}
use Rattle.script.specs.TogglesLaws.{number}
use Rattle.script.proofs.ToggledLaws.{ack-keeps}
use Rattle.script.specs.TogglesLaws.{apart}

-- ---- words

pub toggle-with : (w t : ℕ) → t < 4 → toggle (with_toggle w t) ≡ t
unfolding with_toggle toggle
toggle-with w t h = omega arith

-- `flip` alternates
pub flips : (p : Pid) (w : ℕ) → toggle w ≡ number p → toggle (flip w) ≡ number (other p)
unfolding flip
flips DATA0 w e = ap (λ (n : ℕ). toggle (with_toggle w (pick (eqb n word.DATA0) word.DATA1 word.DATA0))) e
    ∙ toggle-with w 1 (omega arith)
flips DATA1 w e = ap (λ (n : ℕ). toggle (with_toggle w (pick (eqb n word.DATA0) word.DATA1 word.DATA0))) e
    ∙ toggle-with w 0 (omega arith)

pub nak-keeps : (w : ℕ) → toggle (nak w) ≡ toggle w
unfolding nak with_response response toggle
nak-keeps w = omega arith

left-nak : (e b w : ℕ) → (e ≡ 0 → toggle w ≡ b) → cond (eqb e 0) (toggle (nak w)) b ≡ b
left-nak zero b w h = nak-keeps w ∙ h refl
left-nak (suc n) b w h = simp (eqb-suc-zero n)

nak-flips : (p : Pid) (w : ℕ) → toggle w ≡ number p → toggle (nakflip w) ≡ number (other p)
unfolding nakflip
nak-flips p w e = flips p (nak w) (nak-keeps w ∙ e)

pub status-data1 : (w : ℕ) → toggle (status w) ≡ number status_pid
unfolding status
status-data1 w = ack-keeps (with_toggle w word.DATA1) ∙ toggle-with w 1 (omega arith)

acked-data1 : toggle (word_of word.ACK word.DATA1 false) ≡ 1
unfolding word_of toggle
acked-data1 = refl

-- ---- EP0's control word of a direction: a reading brings the toggle last written

abbrev pub left : Dir → ℕ → Access → ℕ
left d b q = on_write (λ r e v. cond (same_reg r (ctrl_of d) && eqb e 0) (toggle v) b) b q

abbrev pub ep0 : Dir → Chip
ep0 d = record { Holds = ℕ; Brings = λ b q v. q ≡ Read (ctrl_of d) 0 → toggle v ≡ b; after = left d }

-- a packet's length, as it is written for an IN
abbrev pub Empty : Access → Type 0
Empty q = OnWrite (λ r e v. Throughout (same_reg r EpTLen) (v ≡ status_length)) q

-- from the toggle b, `P` of the toggle left and of the answer, whatever is read else and whatever becomes of the state
abbrev pub Leads : {S : Type 0} (d : Dir) {A : Type 0} → (ℕ → A → Type 0) → ℕ → tree.Out S A → Type 0
Leads {S = S} d P b o = Every (ep0 d) (λ (s t : S). Unit {0}) (λ _. Unit {0}) (λ b a _. P b a) b o

-- a begin: accepted, it leaves the toggle `new`; refused, the toggle as it was
abbrev pub Begun : ℕ → ℕ → ℕ → Answer → Type 0
Begun old new b (Refused n) = b ≡ old
Begun old new b (End n w) = b ≡ new
Begun old new b NotYet = ⊥
Begun old new b (Done bytes) = ⊥
Begun old new b (Shown bytes stamp) = ⊥

module _ {S : Type 0} (O : Ops S) where
  -- past the rows 4, 10 and 9
  begins : (d : Dir) {b new : ℕ} (n : ℕ) (s : S) {o : tree.Out S Answer} → Leads d (Begun b new) b o
      → Leads d (Begun b new) b
      (cond (eqb (O.get globals-cell s).stage 2) (cond (ltb (O.get globals-cell s).ep0_max n)
      (ends (Refused 10) s)
      (cond (is_on (O.get globals-cell s).setup_ready) (ends (Refused 9) s) o)) (ends (Refused 4) s))
  begins d n s x = every-cond (eqb (O.get globals-cell s).stage 2)
      (λ _. every-cond (ltb (O.get globals-cell s).ep0_max n) (λ _. at_end refl)
      (λ _. every-cond (is_on (O.get globals-cell s).setup_ready) (λ _. at_end refl) (λ _. x))) (λ _. at_end refl)

  -- past the rows 4 and 9
  accepts : (d : Dir) {b new : ℕ} (s : S) {o : tree.Out S Answer} → Leads d (Begun b new) b o → Leads d (Begun b new) b
      (cond (eqb (O.get globals-cell s).stage 2)
      (cond (is_on (O.get globals-cell s).setup_ready) (ends (Refused 9) s) o) (ends (Refused 4) s))
  accepts d s x = every-cond (eqb (O.get globals-cell s).stage 2)
      (λ _. every-cond (is_on (O.get globals-cell s).setup_ready) (λ _. at_end refl) (λ _. x)) (λ _. at_end refl)

  -- ---- the data stage

  -- its first packet
  pub first_out : (i : Bool) (n b : ℕ) (s : S) → Leads Out (Begun b (number (data_pid 0))) b
      (run O (begin_data_out {i = i} n true) s)
  first_out i n b s = begins Out n s (at_ask tt (λ _ _ _ _. at_end acked-data1))

  pub first-in : (i : Bool) (bytes : List ℕ) (last : Bool) (b : ℕ) (s : S)
      → Leads In (Begun b (number (data_pid 0))) b (run O (begin_data_in {i = i} bytes true last) s)
  first-in i bytes true b s = begins In (length bytes) s
      (at_ask tt (λ _ _ _ _. at_ask tt (λ _ _ _ _. at_ask tt (λ _ _ _ _. at_end acked-data1))))
  first-in i bytes false b s = begins In (length bytes) s
      (at_ask tt (λ _ _ _ _. at_ask tt (λ _ _ _ _. at_end acked-data1)))

  -- a later one goes out with the toggle as it stands
  pub next-out : (i : Bool) (n b : ℕ) (s : S) → Leads Out (Begun b b) b (run O (begin_data_out {i = i} n false) s)
  next-out i n b s = begins Out n s (at_ask tt (λ w _ r _. at_ask tt (λ _ _ _ _. at_end (ack-keeps w ∙ r refl))))

  pub next-in : (i : Bool) (bytes : List ℕ) (last : Bool) (b : ℕ) (s : S)
      → Leads In (Begun b b) b (run O (begin_data_in {i = i} bytes false last) s)
  next-in i bytes true b s = begins In (length bytes) s
      (at_ask tt (λ _ _ _ _. at_ask tt (λ _ _ _ _. at_ask tt
      (λ w _ r _. at_ask tt (λ _ _ _ _. at_end (ack-keeps w ∙ r refl))))))
  next-in i bytes false b s = begins In (length bytes) s
      (at_ask tt (λ _ _ _ _. at_ask tt (λ w _ r _. at_ask tt (λ _ _ _ _. at_end (ack-keeps w ∙ r refl)))))

  -- the interrupt's NAK, of whichever endpoint, leaves it
  pub nak-leaves : (i : Bool) (d : Dir) (st b : ℕ) (s : S) → Leads d (λ c _. c ≡ b) b (run O (nak_non_iso {i = i} st) s)
  nak-leaves i Out st b s = every-cond (out_naks st (O.get (ep-cell Out (endpoint st)) s))
      (λ _. at_ask tt (λ w _ r _. at_ask tt (λ _ _ _ _. at_end
      (left-nak (endpoint st) b w (λ z. r (ap (Read EpRxCtrl) z))))))
      (λ _. every-cond (in_naks st (O.get (ep-cell In (endpoint st)) s))
      (λ _. at_ask tt (λ _ _ _ _. at_ask tt (λ _ _ _ _. at_end refl))) (λ _. at_end refl))
  nak-leaves i In st b s = every-cond (out_naks st (O.get (ep-cell Out (endpoint st)) s))
      (λ _. at_ask tt (λ _ _ _ _. at_ask tt (λ _ _ _ _. at_end refl)))
      (λ _. every-cond (in_naks st (O.get (ep-cell In (endpoint st)) s)) (λ _. naks-in) (λ _. at_end refl))
    where
      naks-in : Leads In (λ c _. c ≡ b) b (run O (modify_reg {i = i} EpTxCtrl (endpoint st) nak) s)
      naks-in = at_ask tt (λ w _ r _. at_ask tt (λ _ _ _ _. at_end
          (left-nak (endpoint st) b w (λ z. r (ap (Read EpTxCtrl) z)))))

  -- the interrupt that saw packet k leaves the toggle of packet k + 1; an OUT packet that is no new one leaves it
  pub passed-out : (i : Bool) (x : Transfer) (k : ℕ) (s : S) → eqb (endpoint x.st) 0 ≡ true
      → Leads Out (λ b _. b ≡ number (data_pid (cond (tog_ok x.st) (suc k) k))) (number (data_pid k))
      (run O (out_arm {i = i} x false) s)
  passed-out i x k s h = every-cond (eqb (endpoint x.st) 0) (λ _. step (tog_ok x.st)) (λ z. apart (sym h ∙ z))
    where
      step : (ok : Bool) → Leads Out (λ b _. b ≡ number (data_pid (cond ok (suc k) k))) (number (data_pid k))
          (run O (when ok (do
            modify_reg {i = i} EpRxCtrl 0 flip
            received 0 x.len)) s)
      step true = at_ask tt (λ w _ r _. at_ask tt (λ _ _ _ _. at_end (flips (data_pid k) w (r refl))))
      step false = at_end refl

  pub passed-in : (i : Bool) (x : Transfer) (frame k : ℕ) (s : S) → eqb (endpoint x.st) 0 ≡ true
      → Leads In (λ b _. b ≡ number (data_pid (suc k))) (number (data_pid k)) (run O (in_arm {i = i} x false frame) s)
  passed-in i x frame k s h = every-cond (eqb (endpoint x.st) 0)
      (λ _. at_ask tt (λ w _ r _. at_ask tt (λ _ _ _ _. at_end (flips (data_pid k) w (r refl)))))
      (λ z. apart (sym h ∙ z))

  -- so does the host's token for the other direction, where packet k was armed and no interrupt saw it go through
  pub moved_on_lem : (i : Bool) (d : Dir) (k : ℕ) (s : S)
      → Leads d (λ b _. b ≡ number (data_pid (cond (is_on (O.get (ep-cell d 0) s).armed) (suc k) k)))
      (number (data_pid k)) (run O (moved_on {i = i} d) s)
  moved_on_lem i d k s = step d (is_on (O.get (ep-cell d 0) s).armed)
    where
      step : (d : Dir) (on : Bool) → Leads d (λ b _. b ≡ number (data_pid (cond on (suc k) k))) (number (data_pid k))
          (run O (when on (do
            modify_reg {i = i} (ctrl_of d) 0 nakflip
            modify_ep d 0 completed
            wake d 0)) s)
      step d false = at_end refl
      step Out true = at_ask tt (λ w _ r _. at_ask tt (λ _ _ _ _. at_end (nak-flips (data_pid k) w (r refl))))
      step In true = at_ask tt (λ w _ r _. at_ask tt (λ _ _ _ _. at_end (nak-flips (data_pid k) w (r refl))))

  -- ---- the status stage

  -- after a data stage IN: the closing OUT is armed with the last packet
  pub status-out : (i : Bool) (bytes : List ℕ) (first : Bool) (k b : ℕ) (s : S)
      → Leads (status_dir In (suc k)) (Begun b (number status_pid)) b (run O (begin_data_in {i = i} bytes first true) s)
  status-out i bytes true k b s = begins Out (length bytes) s
      (at_ask tt (λ _ _ _ _. at_ask tt (λ _ _ _ _. at_ask tt (λ _ _ _ _. at_end acked-data1))))
  status-out i bytes false k b s = begins Out (length bytes) s
      (at_ask tt (λ _ _ _ _. at_ask tt (λ _ _ _ _. at_ask tt (λ _ _ _ _. at_ask tt (λ _ _ _ _. at_end acked-data1)))))

  -- and not before
  pub no-status-out : (i : Bool) (bytes : List ℕ) (first : Bool) (k b : ℕ) (s : S)
      → Leads (status_dir In (suc k)) (Begun b b) b (run O (begin_data_in {i = i} bytes first false) s)
  no-status-out i bytes true k b s = begins Out (length bytes) s
      (at_ask tt (λ _ _ _ _. at_ask tt (λ _ _ _ _. at_end refl)))
  no-status-out i bytes false k b s = begins Out (length bytes) s
      (at_ask tt (λ _ _ _ _. at_ask tt (λ _ _ _ _. at_ask tt (λ _ _ _ _. at_end refl))))

  -- after a data stage OUT or none
  in-status : (k : ℕ) → status_dir Out k ≡ In
  in-status zero = refl
  in-status (suc k) = refl

  pub status-in : (i : Bool) (k b : ℕ) (s : S) → Leads (status_dir Out k) (Begun b (number status_pid)) b
      (run O (begin_accept {i = i}) s)
  status-in i k b s = rw (in-status k) (accepts In s (at_ask tt
      (λ _ _ _ _. at_ask tt (λ w _ _ _. at_ask tt (λ _ _ _ _. at_end (status-data1 w))))))

  pub status-in-address : (i : Bool) (address k b : ℕ) (s : S)
      → Leads (status_dir Out k) (Begun b (number status_pid)) b (run O (begin_accept_set_address {i = i} address) s)
  status-in-address i address k b s = rw (in-status k)
      (accepts In s (at_ask tt (λ _ _ _ _. at_ask tt (λ w _ _ _. at_ask tt (λ _ _ _ _. at_end (status-data1 w))))))

  -- ---- packet by packet: the first is armed, then each time the interrupt sees one go through and the next is armed
  abbrev pub goes_through : {i : Bool} → Dir → Transfer → ℕ → Script i Unit
  goes_through Out x frame = out_arm x false
  goes_through In x frame = in_arm x false frame

  abbrev pub stage : {i : Bool} → Dir → Transfer → ℕ → ℕ → Script i Unit
  stage d x frame zero = acks d true
  stage d x frame (suc k) = do
    stage d x frame k
    goes_through d x frame
    acks d false

  armed-next : (i : Bool) (d : Dir) (b : ℕ) (s : S) → Leads d (λ c _. c ≡ b) b (run O (acks {i = i} d false) s)
  armed-next i Out b s = at_ask tt (λ w _ r _. at_ask tt (λ _ _ _ _. at_end (ack-keeps w ∙ r refl)))
  armed-next i In b s = at_ask tt (λ w _ r _. at_ask tt (λ _ _ _ _. at_end (ack-keeps w ∙ r refl)))

  armed-first : (i : Bool) (d : Dir) (b : ℕ) (s : S) → Leads d (λ c _. c ≡ number (data_pid 0)) b
      (run O (acks {i = i} d true) s)
  armed-first i Out b s = at_ask tt (λ _ _ _ _. at_end acked-data1)
  armed-first i In b s = at_ask tt (λ _ _ _ _. at_end acked-data1)

  gone-through : (i : Bool) (d : Dir) (x : Transfer) (frame k : ℕ) → eqb (endpoint x.st) 0 ≡ true → tog_ok x.st
      ≡ true → (s : S)
      → Leads d (λ b _. b ≡ number (data_pid (suc k))) (number (data_pid k)) (run O (goes_through {i = i} d x frame) s)
  gone-through i Out x frame k h t s = subst
      (λ (ok : Bool). Leads Out (λ b _. b ≡ number (data_pid (cond ok (suc k) k)))
      (number (data_pid k)) (run O (goes_through {i = i} Out x frame) s)) t (passed-out i x k s h)
  gone-through i In x frame k h t s = passed-in i x frame k s h

  pub kth-packet : (i : Bool) (d : Dir) (x : Transfer) (frame k b : ℕ) → eqb (endpoint x.st) 0 ≡ true → tog_ok x.st
      ≡ true → (s : S)
      → Leads d (λ c _. c ≡ number (data_pid k)) b (run O (stage {i = i} d x frame k) s)
  kth-packet i d x frame zero b h t s = armed-first i d b s
  kth-packet i d x frame (suc k) b h t s = every_bind (kth-packet i d x frame k b h t s) (λ c _ u e. rw e
      (every_bind (gone-through i d x frame k h t u) (λ c _ u e. rw e (armed-next i d (number (data_pid (suc k))) u))))
