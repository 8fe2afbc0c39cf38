-- No access ends an exemption, and none changes what the log knows of the calls
use Rattle.std.specs.Prelude.{Bool, true, false, not, cond, ◌&&◌, ◌≡◌, refl, ℕ, eqb}
use Rattle.std.proofs.Common.{subst, sym, ◌∙◌}
use Rattle.regs.specs.declared.Access.{Access}
use Rattle.regs.specs.declared.Access.TheVariants.{Read, Write, Receive, Transmit, Ep0Dma, Wait, Callback}
use Rattle.regs.specs.declared.Reg.{Reg}
use Rattle.regs.specs.declared.Reg.TheVariants.{DevAd, IntFg, IntSt, MisSt, RxLen, FrameNo, EpTLen, EpRxCtrl, EpTxCtrl}
use Rattle.regs.specs.declared.Dir.TheVariants.{Out, In}
use Rattle.regs.specs.declared.Token as tokens
use Rattle.regs.specs.declared.Token.TheVariants as tok
use Rattle.regs.specs.Flags.{transfer, SETUP_ACT}
use Rattle.regs.specs.Status as status
use Rattle.regs.specs.Status.{endpoint, tog_ok}
use Rattle.script.specs.Every.{same_reg}
use Rattle.script.specs.Machine.{Buf}
use Rattle.proof_usb20.specs.Pipe.{Event, setup, packet, token}
use Rattle.proof_usb20.specs.Log.{Phase, off, entered, flagged, again, timed, shows, Log, with_phase, with_got}
use Rattle.proof_usb20.specs.Log.{happens}
use Rattle.proof_usb20.specs.Log.{of_token, seen, reads, compared, saw}

-- a test, either way
pub by_test : {A : Type 0} (b : Bool) → (b ≡ true → A) → (b ≡ false → A) → A
by_test true x y = x refl
by_test false x y = y refl

pub differ : {A : Type 0} → false ≡ true → A
differ h = absurd (subst (λ (b : Bool). cond b ⊥ (Unit {0})) h tt)

pub record Kept (w x : Log) : Type 0 where
  pub exempt : w.exempt ≡ true → x.exempt ≡ true
  pub started : x.started ≡ w.started
  pub request : x.request ≡ w.request
  pub slot : x.slot ≡ w.slot

pub same : {w : Log} → Kept w w
same = record { exempt = λ h. h; started = refl; request = refl; slot = refl }

pub further : {w x y : Log} → Kept w x → Kept x y → Kept w y
further p q = record {
  exempt = λ h. q.exempt (p.exempt h);
  started = q.started ∙ p.started;
  request = q.request ∙ p.request;
  slot = q.slot ∙ p.slot;
}

-- a change of other parts
parts : {w x : Log} → x.exempt ≡ w.exempt → x.started ≡ w.started → x.request ≡ w.request → x.slot ≡ w.slot
    → Kept w x
parts e s r l = record { exempt = λ h. e ∙ h; started = s; request = r; slot = l }

either : {w b c : Log} (t : Bool) → Kept w b → Kept w c → Kept w (cond t b c)
either true p q = p
either false p q = q

happened : (e : Event) (w : Log) → Kept w (happens e w)
happened setup w = record { exempt = λ h. rw h refl; started = refl; request = refl; slot = refl }
happened (packet Out) w = record { exempt = λ h. rw h refl; started = refl; request = refl; slot = refl }
happened (packet In) w = record { exempt = λ h. rw h refl; started = refl; request = refl; slot = refl }
happened (token d) w = record { exempt = λ h. rw h refl; started = refl; request = refl; slot = refl }

of-token : (t : tokens.Token) (busy ok : Bool) (n : ℕ) (w : Log) → Kept w (of_token t busy ok n w)
of-token tok.Out busy ok n w =
    further (either (not busy && ok) (further (happened (packet Out) w) (parts refl refl refl refl)) same)
    (happened (token Out) (cond (not busy && ok) (with_got n (happens (packet Out) w)) w))
of-token tok.In busy ok n w =
    further (either busy same (happened (packet In) w)) (happened (token In) (cond busy w (happens (packet In) w)))
of-token tok.Sof busy ok n w = same
of-token tok.Setup busy ok n w = same

seen-kept : (busy : Bool) (st n : ℕ) (w : Log) → Kept w (seen busy st n w)
seen-kept busy st n w = either (eqb (endpoint st) 0) (of-token (status.token st) busy (tog_ok st) n w) same

reads_kept : (p : Phase) (r : Reg) (v : ℕ) (w : Log) → Kept w (reads p r v w)
reads_kept off r v w = same
reads_kept entered r v w = either (same_reg r IntFg) (parts refl refl refl refl) same
reads_kept flagged r v w = either (same_reg r MisSt) (parts refl refl refl refl) same
reads_kept (timed b) r v w = either (same_reg r IntSt) (parts refl refl refl refl) same
reads_kept (shows b st n) r v w = either (same_reg r RxLen) (parts refl refl refl refl)
    (either (same_reg r IntFg) (either (transfer v) same (parts refl refl refl refl))
    (either (same_reg r FrameNo) (further (parts refl refl refl refl) (seen-kept b st n (with_phase off w))) same))
reads_kept (again n) r v w = either (same_reg r IntSt) (parts refl refl refl refl) same

compared-kept : (r : Reg) (e v : ℕ) (w : Log) → Kept w (compared r e v w)
compared-kept r e v w = either (same_reg r EpRxCtrl) (either (eqb e 0) (parts refl refl refl refl) same)
    (either (same_reg r EpTxCtrl) (either (eqb e 0) (parts refl refl refl refl) same) same)

-- EP0's address
abbrev pub is_ep0_dma : Access → Bool
is_ep0_dma (Read r e) = false
is_ep0_dma (Write r e v) = false
is_ep0_dma (Receive e y) = false
is_ep0_dma (Transmit e y) = false
is_ep0_dma (Ep0Dma y) = true
is_ep0_dma (Wait n) = false
is_ep0_dma Callback = false

pub saw-kept : (w : Log) (q : Access) → is_ep0_dma q ≡ false → (v : ℕ) (b : Buf) → Kept w (saw w q v b)
saw-kept w (Read r e) d v b = further (compared-kept r e v w) (reads_kept w.phase r v (compared r e v w))
saw-kept w (Write r e v) d x b = either (same_reg r EpRxCtrl) (either (eqb e 0) (parts refl refl refl refl) same)
    (either (same_reg r EpTxCtrl) (either (eqb e 0) (parts refl refl refl refl) same)
    (either (same_reg r EpTLen) (either (eqb e 0) (parts refl refl refl refl) same)
    (either (same_reg r DevAd) (parts refl refl refl refl) (either (same_reg r IntFg) (either (eqb v SETUP_ACT)
    (parts refl refl refl refl) same) same))))
saw-kept w (Receive e y) d x b = same
saw-kept w (Transmit e y) d x b = same
saw-kept w (Ep0Dma y) d x b = differ (sym d)
saw-kept w (Wait n) d x b = same
saw-kept w Callback d x b = same
