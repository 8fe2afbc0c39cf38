-- The laws of the calls that are not of a plain endpoint: they leave its record and the log
use Rattle.std.specs.Prelude.{Bool, true, false, List, [], ◌≡◌, refl, ℕ, ◌%◌, length}
use Rattle.std.proofs.Common.{subst}
use Rattle.regs.specs.declared.Dir.{Dir}
use Rattle.regs.specs.declared.Dir.TheVariants.{Out, In}
use Rattle.bits.specs.Bit.{with_bit}
use Rattle.regs.specs.declared.Reg.TheVariants.{EpRxCtrl, EpTxCtrl}
use Rattle.regs.specs.Registers.{ctrl_of}
use Rattle.state.specs.declared.Control.{Control}
use Rattle.state.specs.Driver.{Driver}
use Rattle.frame.specs.Usb20.{index_of, frame_of}
use Rattle.frame.specs.Advance.{NO_FRAME, completions}
use Rattle.script.specs.Tree as tree
use Rattle.script.specs.Machine.{Buf}
use Rattle.script.specs.Cells.{ep-cell, globals-cell, allocator-cell, control-cell, paced_cell}
use Rattle.script.specs.Script.{Script, bind, run, put}
use Rattle.script.specs.Statics.{flag, with_paced, with_setup}
use Rattle.script.specs.Answers.{Answer, Refused, Done, resultless}
use Rattle.script.specs.Control.{SETUP, DATA-OUT, DATA-IN, ACCEPT, request_of, empty_control, data_in_of, address_of}
use Rattle.script.specs.Control.{ends_control, unless_setup, within_maximum, requested, aborted_else, acks, take_closing}
use Rattle.script.specs.Control.{status_in}
use Rattle.script.specs.Calls.{slotted, other, aside, PollDataOut, BeginDataIn, BusEnable, BusDisable, Microframe}
use Rattle.script.specs.Calls.{IsStalled, SetPaced, Advance, BeginSetup, PollSetup, PollDataIn, BeginAccept, PollAccept}
use Rattle.script.specs.Calls.{BeginReject, BeginDataOut, BeginAcceptSetAddress, Aside, Open, Close, Queue, aside_code}
use Rattle.script_ops.specs.Rings.{St}
use Rattle.script_ops.specs.Concrete.{concrete}
use Rattle.proof_book.specs.Sorting.{Sorting}
use Rattle.proof_usb20.specs.Sequence.{Track, before}
use Rattle.proof_usb20.specs.FollowLaws as follow
use Rattle.proof_usb20.specs.Follow.{EpSeen, view, Follow, Law}
use Rattle.proof_usb20.specs.Watch.{at_end}
use Rattle.proof_usb20.specs.CalmLaws.{Off, Else, LeavesTrack, loose, only, off-idle, off_read, put_globals}
use Rattle.proof_usb20.specs.CalmLaws.{put_control}
use Rattle.proof_usb20.specs.CalmLaws.{put_paced, q_act, q_bind, q_enabled, q_ep, q_fetch, q_got, q_is, q_look}
use Rattle.proof_usb20.specs.CalmLaws.{q_operation, q_put, q_reg, q_resultless, q_ret, q_staged, q_test, q_when}
use Rattle.proof_usb20.specs.CalmLaws.{q_write}
use Rattle.proof_usb20.specs.CalmPartsLaws.{q-completions}
use Rattle.proof_usb20.specs.ExemptLaws.{differ}
use Rattle.proof_usb20.specs.ReadingLaws as reading
use Rattle.proof_usb20.specs.ReadingLaws.{quiet-law}

module _ (D : Dir) (E : ℕ) where
  abbrev Q : {i : Bool} {A : Type 0} → Script i A → Type 0
  Q p = LeavesTrack D E false (Off D E) p

  pub law-bus-enable : Law D E (other BusEnable)
  law-bus-enable = quiet-law D E (other BusEnable) refl (λ _ _. refl) (λ _ _. tt)
      ((q_staged D E) 2 ((q_resultless D E) ((q_bind D E) (off_read D E (λ _. (q_ret D E)))
      (λ v. (q_write D E) (q_ret D E)))))

  pub law-bus-disable : Law D E (other BusDisable)
  law-bus-disable = quiet-law D E (other BusDisable) refl (λ _ _. refl) (λ _ _. tt)
      ((q_staged D E) 2 ((q_resultless D E) (q_ret D E)))

  pub law-microframe : Law D E (other Microframe)
  law-microframe = quiet-law D E (other Microframe) refl (λ _ _. refl) (λ _ _. tt)
      ((q_staged D E) 2 ((q_operation D E) ((q_bind D E) (off_read D E (λ _. (q_ret D E))) (λ v. (q_ret D E)))))

  pub law-is-stalled : (d : Dir) (e : ℕ) → Law D E (other (IsStalled d e))
  law-is-stalled d e = quiet-law D E (other (IsStalled d e)) refl (λ _ _. refl) (λ _ _. tt)
      ((q_staged D E) 2 ((q_test D E) ((q_operation D E)
      ((q_bind D E) (off_read D E (λ _. (q_ret D E))) (λ v. (q_ret D E))))
      (reading.q-named D E d e ((q_operation D E) ((q_bind D E) (off_read D E (λ _. (q_ret D E)))
      (λ v. (q_ret D E)))))))

  pub law-set-paced : (e : ℕ) (on : Bool) → Law D E (other (SetPaced e on))
  law-set-paced e on = quiet-law D E (other (SetPaced e on)) refl (λ _ _. refl) (λ _ _. tt)
      ((q_staged D E) 2 ((q_test D E) ((q_bind D E) ((q_bind D E) ((q_got D E) globals-cell)
      (λ g. (q_bind D E) ((q_put D E) (put_globals D E (with_paced (with_bit g.iso_in_paced e on) g)) (q_ret D E))
      (λ _. (q_put D E) (put_paced D E e NO_FRAME) (q_ret D E)))) (λ _. (q_ret D E))) (q_ret D E)))

  pub law-advance : (e : ℕ) → Law D E (other (Advance e))
  law-advance e = quiet-law D E (other (Advance e)) refl (λ _ _. refl) (λ _ _. tt)
      ((q_staged D E) 2 ((q_test D E) ((q_resultless D E)
      ((q_bind D E) ((q_got D E) globals-cell) (λ g. (q_when D E) ((q_test D E)
      ((q_bind D E) (off_read D E (λ _. (q_ret D E))) (λ frame. (q_bind D E) ((q_got D E) (paced_cell e))
      (λ last. (q_bind D E) (only D E (off-idle D E) ((q-completions D E) (completions last (index_of frame)) e
      (λ h. differ h)))
      (λ _. (q_put D E) (put_paced D E e (frame_of (index_of frame))) (q_ret D E)))))
      ((q_put D E) (put_paced D E e NO_FRAME) (q_ret D E)))))) (q_ret D E)))

  -- ---- those that pass during an interrupt

  q-aside : (o : Aside) → Q (aside_code o)
  q-aside (Open e) = (q_staged D E) 2
      (reading.q-named D E Out e ((q_bind D E) ((q_got D E) (ep-cell Out e)) (λ s. (q_test D E) (q_ret D E)
      ((q_bind D E) ((q_is D E) (λ _. (q_ret D E))) (λ b. (q_test D E)
      ((q_bind D E) ((q_act D E) refl (q_ret D E)) (λ _. (q_bind D E)
      ((q_fetch D E) (λ _. (q_ret D E))) (λ bytes. (q_bind D E) ((q_look D E) (λ _. (q_ret D E)))
      (λ stamp. (q_ret D E))))) (q_ret D E))))))
  q-aside (Close e) = (q_staged D E) 2
      (reading.q-named D E Out e ((q_bind D E) ((q_is D E) (λ _. (q_ret D E)))
      (λ b. (q_test D E) ((q_bind D E) ((q_act D E) refl (q_ret D E)) (λ _. (q_ret D E))) (q_ret D E))))
  q-aside (Queue e bytes) = (q_staged D E) 2
      (reading.q-named D E In e ((q_enabled D E) In e (q_ret D E) ((q_bind D E) ((q_got D E) allocator-cell)
      (λ a. (q_test D E) (q_ret D E) ((q_bind D E) ((q_got D E) (ep-cell In e))
      (λ s. (q_test D E) (q_ret D E) ((q_bind D E)
      ((q_is D E) (λ _. (q_ret D E))) (λ b. (q_test D E)
      ((q_bind D E) ((q_act D E) refl (q_ret D E)) (λ _. (q_ret D E))) (q_ret D E)))))))))

  pub law-aside : (o : Aside) → Law D E (aside o)
  law-aside o = quiet-law D E (aside o) refl (λ _ _. refl) (λ _ _. tt) (q-aside o)

  ended-view : {A : Type 0} {w : Track} {v : EpSeen} {a : A} {t : St}
      → Follow D E {A = A} (λ _ _ t. view D E t.0 ≡ v) w (tree.ends a t) → view D E t.0 ≡ v
  ended-view (at_end p) = p

  pub aside-view : (o : Aside) (d : Driver) (b : Buf) (a : Answer) (t : St) → Sorting d
      → run concrete (aside_code o) (d, b) ≡ tree.ends a t → view D E t.0 ≡ view D E d
  aside-view o d b a t z h = ended-view
      (subst (Follow D E (λ _ _ t. view D E t.0 ≡ view D E d) before) h
      (follow.follow-more D E ((q-aside o).goes before (d, b) (refl, λ _ _ _ _. refl) (loose D E z.places))
      (λ _ _ _ m. m.1)))

  -- ---- EP0's

  module _ (o : (d : Dir) → Else D E d 0) where
    q-acks : {i : Bool} (d : Dir) (first : Bool) → Q (acks {i = i} d first)
    q-acks d true = (q_write D E) (q_ret D E)
    q-acks d false = (q_reg D E) (ctrl_of d) 0 _

    q-over : {i : Bool} (a : Answer) → Q (ends_control {i = i} a)
    q-over a = (q_bind D E) ((q_put D E) (put_control D E empty_control) (q_ret D E)) (λ _. (q_ret D E))

    q-setup-else : {i : Bool} {p : Script i Answer} → Q p → Q (unless_setup p)
    q-setup-else x = (q_bind D E) ((q_got D E) globals-cell) (λ g. (q_test D E) (q_ret D E) x)

    q-within : {i : Bool} (n : ℕ) {p : Script i Answer} → Q p → Q (within_maximum n p)
    q-within n x = (q_bind D E) ((q_got D E) globals-cell) (λ g. (q_test D E) (q_ret D E) x)

    q-requested : {i : Bool} (n : ℕ) {p : Control → Script i Answer} → ((c : Control) → Q (p c)) → Q (requested n p)
    q-requested n x = (q_bind D E) ((q_got D E) control-cell) (λ c. (q_test D E) (x c) (q_ret D E))

    q-aborted : {i : Bool} {p : Script i Answer} → Q p → Q (aborted_else p)
    q-aborted x = (q_bind D E) ((q_got D E) globals-cell) (λ g. (q_test D E) (q-over (Refused 9)) x)

    q-begins : {i : Bool} (c : Control) {p : Script i Unit} → Q p → Q (bind (put control-cell c) (λ _. resultless p))
    q-begins c x = (q_bind D E) ((q_put D E) (put_control D E c) (q_ret D E)) (λ _. (q_resultless D E) x)

    pub law-setup : Law D E (other BeginSetup)
    law-setup = quiet-law D E (other BeginSetup) refl (λ _ _. refl) (λ _ _. tt)
        ((q_staged D E) 2 (q-begins (request_of SETUP 0) (q_ret D E)))

    pub law-poll-setup : Law D E (other PollSetup)
    law-poll-setup = quiet-law D E (other PollSetup) refl (λ _ _. refl) (λ _ _. tt)
        ((q_staged D E) 2 (q-requested SETUP (λ c. (q_bind D E) ((q_got D E) globals-cell) (λ g. (q_test D E)
        ((q_bind D E) ((q_put D E) (put_globals D E (with_setup 0 g.setup_low g.setup_high g)) (q_ret D E))
        (λ _. q-over _)) (q_ret D E)))))

    pub law-data-out : (n : ℕ) (first : Bool) → Law D E (other (BeginDataOut n first))
    law-data-out n first = quiet-law D E (other (BeginDataOut n first)) refl (λ _ _. refl) (λ _ _. tt)
        ((q_staged D E) 2
        (q-within n (q-setup-else (q-begins (request_of DATA-OUT n)
        ((q_bind D E) ((q_ep D E) Out 0 _ (o Out)) (λ _. q-acks Out first))))))

    pub law-poll-data-out : (n : ℕ) → Law D E (slotted (PollDataOut n))
    law-poll-data-out n = quiet-law D E (slotted (PollDataOut n)) refl (λ _ _. refl) (λ _ _. tt)
        ((q_staged D E) 2 (q-requested DATA-OUT (λ c. (q_test D E)
        ((q_bind D E) ((q_got D E) (ep-cell Out 0))
        (λ s. (q_test D E) ((q_bind D E) ((q_ep D E) Out 0 _ (o Out)) (λ _. (q_test D E) (q-over (Refused 10))
        ((q_bind D E) ((q_fetch D E) (λ _. (q_ret D E))) (λ bytes. q-over (Done bytes))))) (q-aborted (q_ret D E))))
        ((q_bind D E) ((q_ep D E) Out 0 _ (o Out)) (λ _. q-over (Refused 10))))))

    pub law-data-in : (bytes : List ℕ) (first last : Bool) → Law D E (slotted (BeginDataIn bytes first last))
    law-data-in bytes first last = quiet-law D E (slotted (BeginDataIn bytes first last)) refl (λ _ _. refl) (λ _ _. tt)
        ((q_staged D E) 2 (q-within (length bytes) (q-setup-else (q-begins (data_in_of (length bytes) (flag last) 1)
        ((q_bind D E) ((q_act D E) refl (q_ret D E)) (λ _. (q_bind D E) ((q_ep D E) In 0 _ (o In))
        (λ _. (q_bind D E) ((q_when D E) ((q_bind D E) ((q_ep D E) Out 0 _ (o Out)) (λ _. (q_write D E) (q_ret D E))))
        (λ _. (q_bind D E) ((q_ep D E) In 0 _ (o In)) (λ _. (q_bind D E) ((q_write D E) (q_ret D E))
        (λ _. q-acks In first))))))))))

    q-closing : {i : Bool} (now : Bool) (c : Control) → Q (take_closing {i = i} now c)
    q-closing now c = (q_bind D E) ((q_got D E) (ep-cell Out 0))
        (λ s. (q_test D E)
        ((q_bind D E) ((q_ep D E) Out 0 _ (o Out)) (λ _. (q_bind D E) ((q_when D E) ((q_ep D E) In 0 _ (o In)))
        (λ _. q-over _)))
        (q-aborted ((q_bind D E) ((q_when D E) ((q_bind D E) ((q_ep D E) In 0 _ (o In))
        (λ _. (q_put D E) (put_control D E (data_in_of c.length c.last 2)) (q_ret D E)))) (λ _. (q_ret D E)))))

    pub law-poll-data-in : Law D E (other PollDataIn)
    law-poll-data-in = quiet-law D E (other PollDataIn) refl
        (λ _ _. refl) (λ _ _. tt) ((q_staged D E) 2 (q-requested DATA-IN (λ c. (q_test D E) (q-closing false c)
        ((q_bind D E) ((q_got D E) (ep-cell In 0)) (λ s. (q_test D E)
        ((q_test D E) (q-closing true c) ((q_bind D E) ((q_ep D E) In 0 _ (o In)) (λ _. q-over (Done []))))
        (q-aborted (q_ret D E)))))))

    q-status : {i : Bool} → Q (status_in {i = i})
    q-status = (q_bind D E) ((q_ep D E) In 0 _ (o In))
        (λ _. (q_bind D E) ((q_write D E) (q_ret D E)) (λ _. (q_reg D E) EpTxCtrl 0 _))

    pub law-accept : Law D E (other BeginAccept)
    law-accept = quiet-law D E (other BeginAccept) refl (λ _ _. refl) (λ _ _. tt)
        ((q_staged D E) 2 (q-setup-else (q-begins (request_of ACCEPT 0) q-status)))

    pub law-accept-address : (a : ℕ) → Law D E (other (BeginAcceptSetAddress a))
    law-accept-address a = quiet-law D E (other (BeginAcceptSetAddress a)) refl
        (λ _ _. refl) (λ _ _. tt) ((q_staged D E) 2 (q-setup-else (q-begins (address_of (a % 256)) q-status)))

    pub law-poll-accept : Law D E (other PollAccept)
    law-poll-accept = quiet-law D E (other PollAccept) refl (λ _ _. refl) (λ _ _. tt)
        ((q_staged D E) 2 (q-requested ACCEPT (λ c. (q_bind D E) ((q_got D E) (ep-cell In 0)) (λ s. (q_test D E)
        ((q_bind D E) ((q_ep D E) In 0 _ (o In)) (λ _. (q_bind D E)
        ((q_put D E) (put_control D E empty_control) (q_ret D E))
        (λ _. (q_test D E) ((q_resultless D E) ((q_write D E) (q_ret D E))) (q_ret D E)))) (q-aborted (q_ret D E))))))

    pub law-reject : Law D E (other BeginReject)
    law-reject = quiet-law D E (other BeginReject) refl (λ _ _. refl) (λ _ _. tt)
        ((q_staged D E) 2 (q-begins empty_control ((q_bind D E) ((q_ep D E) Out 0 _ (o Out))
        (λ _. (q_bind D E) ((q_ep D E) In 0 _ (o In)) (λ _. (q_bind D E) ((q_reg D E) EpTxCtrl 0 _)
        (λ _. (q_reg D E) EpRxCtrl 0 _))))))
