-- Laws on the definitions of Operations.antt
use Rattle.std.specs.Prelude.{Bool, List, ◌⊎◌, ◌≡◌, eqb, length}
use Rattle.std.proofs.Math.Bool.{true, false}
use Rattle.std.proofs.Common.{true≢false, inl, inr, subst, sym, ◌∙◌}
use Rattle.std.proofs.Math.Path.{refl, ap}
use Prim.Native.Nat.{ℕ, zero, suc}
use Rattle.std.proofs.Math.Decide.{ℕ_discrete}
use Rattle.regs.specs.declared.Reg.TheVariants.{FrameNo, Ctrl, DevAd, EpTLen, EpRxCtrl, EpTxCtrl}
use Rattle.regs.specs.declared.Dir.{Dir}
use Rattle.regs.specs.declared.Dir.TheVariants.{Out, In}
use Rattle.regs.specs.Registers.{ctrl_of}
use Rattle.state.specs.declared.Globals.{Globals}
use Rattle.state.specs.declared.Control.{Control}
use Rattle.script.specs.Cells.{EpCore, globals-cell}
use Rattle.state.specs.Driver.{key}
use Rattle.script.specs.Script.{Script, ret, test, room, enqueue}
use Rattle.script.specs.Statics.{is_on, with_ready, with_tog}
use Rattle.script.specs.Answers.{Answer, Refused, staged}
use Rattle.script.specs.IsoIn.{iso_in_completions, iso_in_advance}
use Rattle.script.specs.Bus as bus
use Rattle.script.specs.Endpoint.{arm_read, load_write, put_iso, sent_ready}
use Rattle.script.specs.Control.{acks, closing_out, take_closing, take_in, status_in}
use Rattle.script.specs.Calls.{Slotted, SetEnabled, PollRead, BeginWrite, PollWrite, PollDataOut, BeginDataIn, Other}
use Rattle.script.specs.Calls.{Allocate, AllocateAll, Start, BusPoll, BusEnable, BusDisable, Microframe, SetStalled}
use Rattle.script.specs.Calls.{IsStalled, SetPaced, Advance, BeginRead, BeginSetup, PollSetup, PollDataIn, BeginAccept}
use Rattle.script.specs.Calls.{PollAccept, BeginReject, BeginDataOut, BeginAcceptSetAddress, Open, Close, Queue}
use Rattle.script.specs.Calls.{Op, interrupt, slotted, other, aside, code}
use Rattle.proof_isolation.specs.EqualExcept.{Channel}
use Rattle.proof_isolation.specs.Apart.{PairBy, Pair}
use Rattle.proof_isolation.specs.PairsLaws.{Any, p-later, p_ret, p_bind, p-same, p-then, p_test, p-tests, p-when}
use Rattle.proof_isolation.specs.PairsLaws.{p_write, p_get, p_is, p-act}
use Rattle.proof_isolation.proofs.ValuesLaws.{p-assign, p-record, p-modify-ep, p-wake, p-globals, p-plain-in}
use Rattle.proof_isolation.proofs.ValuesLaws.{p-plain-ep0, p-plain-any}
use Rattle.proof_isolation.proofs.ValuesLaws.{in-other, p-records}
use Rattle.proof_isolation.specs.Answers.{SameAnswer, same}
use Rattle.proof_isolation.proofs.AnswersLaws.{p-operation, p-resultless, p-staged, p-named}
use Rattle.proof_isolation.proofs.WalksLaws.{ctrl-steady, p-reads, p-modify-reg, p-complete}
use Rattle.proof_isolation.proofs.InterruptLaws.{p-interrupt}
use Rattle.proof_isolation.proofs.AsidesLaws.{p-aside, room_in_lem, enqueues}
use Rattle.proof_isolation.proofs.RowsLaws.{p-unless, p-numbered, p-named-or-0, p-enabled, p-ends-request}
use Rattle.proof_isolation.proofs.RowsLaws.{p-polled}
use Rattle.proof_isolation.proofs.ReadingLaws.{p-poll-read}
use Rattle.proof_isolation.proofs.EnablingLaws.{p_set_enabled}
use Rattle.proof_isolation.proofs.EnablingOutLaws as enabling-out
use Rattle.proof_isolation.proofs.SwitchingLaws as switching
use Rattle.proof_isolation.proofs.DataOutLaws.{p-ends-control, p-unless-setup, p-within, p-requested, p-aborted}
use Rattle.proof_isolation.proofs.DataOutLaws.{p-begin-data-out, p-poll-data-out}
use Rattle.proof_isolation.proofs.PollingLaws.{p-poll}
use Rattle.proof_isolation.proofs.KeptLaws.{p-put-control, p-put-paced, p-paced, p-put-request, p-fill, p-fill0}
use Rattle.proof_isolation.specs.Operations.{CommonSlots, Common, OfChannel, polls, passes}

module _ {c : Channel} {st : ℕ} {i : Bool} where
  -- after EP0's start no allocation and no second start
  pick-stage : {p : Script i Answer} (n : ℕ) → n ≡ 2
      → Pair c st (SameAnswer c.number) (test (eqb n 1) p (ret (Refused 4))) (test (eqb n 1) p (ret (Refused 4)))
  pick-stage {p} n h =
      subst (λ k. Pair c st (SameAnswer c.number) (test (eqb k 1) p (ret (Refused 4)))
      (test (eqb k 1) p (ret (Refused 4))))
      (sym h) (record { on = λ s t l. (p_ret {i = i} (same (Refused 4))).on s t l })

  p-early : {p : Script i Answer} → Pair c st (SameAnswer c.number) (staged 1 p) (staged 1 p)
  p-early {p} = p_bind (p_get globals-cell (λ v v'. (v ≡ v') × (v.stage ≡ 2))
      (λ s t l. (l.but.globals, l.left.stage)))
      (λ v v' e. subst (λ (w : Globals). Pair c st (SameAnswer c.number)
      (test (eqb v.stage 1) p (ret (Refused 4)))
      (test (eqb w.stage 1) p (ret (Refused 4)))) e.0 (pick-stage v.stage e.1))

  -- ---- pacing

  p-completions : (n e : ℕ) → Pair c st {i = i} Any (iso_in_completions n e) (iso_in_completions n e)
  unfolding iso_in_completions
  p-completions zero e = p_ret tt
  p-completions (suc n) e = p-then (p-complete e) (p-completions n e)

  p-advance : (e : ℕ) → Pair c st {i = i} Any (iso_in_advance e) (iso_in_advance e)
  p-advance e = p-globals c (λ g _. p-when _ (λ _. p_test _
      (λ _. p-reads FrameNo 0 (λ v v' h. h) (λ frame. p-same (p-paced c e)
      (λ last. p-then (p-completions _ e) (p-put-paced c e _))))
      (λ _. p-put-paced c e _)))

  -- ---- stalls

  p-stalled : (dir : Dir) (e : ℕ) (onn : Bool) → Pair c st {i = i} Any (bus.set_stalled dir e onn)
      (bus.set_stalled dir e onn)
  unfolding bus.restarted_out bus.restarted
  p-stalled Out e true = p-then (p-modify-reg EpRxCtrl e _ (λ v v' h. h)) (p-wake c Out e)
  p-stalled In e true = p-then (p_write EpTLen e 0) (p-then (p-modify-reg EpTxCtrl e _ (λ v v' h. h)) (p-wake c In e))
  p-stalled Out e false = p-plain-any c Out e
      (λ s r n _ _. p-then (p-records c Out e _ _ refl (λ k. ap (λ z. with_tog 0 (with_ready z s)) (sym (n k))))
      (p-then (p_write EpRxCtrl e _) (p-wake c Out e)))
  p-stalled In e false = p-plain-in c e
      (λ s _. p-then (p-record c In e _)
      (p-then (p_write EpTxCtrl e _) (p-then (p-when _ (λ _. p-modify-ep c In e _ (λ _. refl))) (p-wake c In e))))

  -- ---- reads and writes

  p-arm-read : (e : ℕ) (s : EpCore) (r : ℕ) → (is_on s.iso ≡ false → r ≡ s.ready)
      → Pair c st {i = i} Any (arm_read e s) (arm_read e (with_ready r s))
  p-arm-read e s r n = p_test _ (λ _. p_ret tt)
      (λ u. p-tests (ap is_on (sym (n u)))
      (λ _. p_ret tt) (λ _. p-then (p-modify-ep c Out e _ (λ _. refl)) (p-modify-reg EpRxCtrl e _ (λ v v' h. h))))

  p-load-write : (e : ℕ) (bytes : List ℕ) → Pair c st {i = i} Any (load_write e bytes) (load_write e bytes)
  p-load-write e bytes = p-then (p-fill c e bytes)
      (p-then (p-modify-ep c In e _ (λ _. refl)) (p-then (p_write EpTLen e _)
      (p-modify-reg EpTxCtrl e _ (λ v v' h. h))))

  p-put-iso : (e : ℕ) (bytes : List ℕ) → Pair c st {i = i} (SameAnswer c.number) (put_iso e bytes) (put_iso e bytes)
  p-put-iso e bytes = p-enabled In e (p-ends-request In e _)
      (p-same (p_is (room e (length bytes)) (λ s t l. room_in_lem c e bytes s t l (length bytes))) (λ b. p_test b
      (λ _. p-then (p-act (enqueue e bytes) (enqueues c e bytes)) (p-ends-request In e _))
      (λ _. p_ret (same _))))

  p-sent-ready : (e : ℕ) (s : EpCore) → Pair c st {i = i} (SameAnswer c.number) (sent_ready e s) (sent_ready e s)
  p-sent-ready e s = p_test _ (λ _. p-then (p-modify-ep c In e _ (λ _. refl)) (p-ends-request In e _))
      (λ _. p-enabled In e (p-ends-request In e _) (p_ret (same _)))

  -- ---- the control pipe

  p-acks : (dir : Dir) (first : Bool) → Pair c st {i = i} Any (acks dir first) (acks dir first)
  p-acks dir true = p_write (ctrl_of dir) 0 _
  p-acks dir false = p-modify-reg (ctrl_of dir) 0 _ (ctrl-steady c st dir)

  p-closing-out : Pair c st {i = i} Any closing_out closing_out
  p-closing-out = p-then (p-modify-ep c Out 0 _ (λ _. refl)) (p_write EpRxCtrl 0 _)

  p-take-closing : (now : Bool) (v : Control) → Pair c st {i = i} (SameAnswer c.number) (take_closing now v)
      (take_closing now v)
  p-take-closing now v = p-plain-ep0 c Out (λ s _. p_test _
      (λ _. p-then (p-modify-ep c Out 0 _ (λ _. refl))
      (p-then (p-when now (λ _. p-modify-ep c In 0 _ (λ _. refl))) (p-ends-control _)))
      (λ _. p-aborted (p-then (p-when now (λ _. p-then (p-modify-ep c In 0 _ (λ _. refl)) (p-put-control c _ refl)))
      (p_ret (same _)))))

  p-take-in : (v : Control) → Pair c st {i = i} (SameAnswer c.number) (take_in v) (take_in v)
  p-take-in v = p-plain-in c 0 (λ s _. p_test _
      (λ _. p_test _ (λ _. p-take-closing true v) (λ _. p-then (p-modify-ep c In 0 _ (λ _. refl)) (p-ends-control _)))
      (λ _. p-aborted (p_ret (same _))))

  p-status-in : Pair c st {i = i} Any status_in status_in
  p-status-in = p-then (p-modify-ep c In 0 _ (λ _. refl))
      (p-then (p_write EpTLen 0 0) (p-modify-reg EpTxCtrl 0 _ (λ v v' h. h)))

-- ---- the calls

module _ (c : Channel) (st : ℕ) where
  p-enabling : (dir : Dir) (e : ℕ) (onn : Bool) → Pair c st Any (bus.set_enabled dir e onn) (bus.set_enabled dir e onn)
  p-enabling In e onn = p_set_enabled c e onn
  p-enabling Out e onn = by (c.iso Out e) refl
    where
      by : (u : Bool) → c.iso Out e ≡ u → Pair c st Any (bus.set_enabled Out e onn) (bus.set_enabled Out e onn)
      by true h = switching.p_set_enabled c e h onn
      by false h = enabling-out.p_set_enabled c e h onn

  p-slotted : (o : Slotted) → CommonSlots c.number o
      → Pair c st (SameAnswer c.number) (code (slotted o)) (code (slotted o))
  p-slotted (SetEnabled dir e onn) n = p-staged 2 (p-named dir e (p-resultless (p-enabling dir e onn)))
  p-slotted (PollRead e k) n = p-staged 2 (p-named Out e (p-poll-read c e n k))
  p-slotted (BeginWrite e bytes) n = p-staged 2
      (p-named In e (p-enabled In e (p_ret (same _)) (p-plain-in c e
      (λ s _. p-unless _ 10 (p-then (p-put-request c In e _)
      (p-resultless (p_test _ (λ _. p_ret tt) (λ _. p-load-write e bytes))))))))
  p-slotted (PollWrite e bytes) n = p-staged 2
      (p-named In e
      (p-polled In e (length bytes) (in-other c.number e)
      (p-plain-in c e (λ s _. p_test _ (λ _. p-put-iso e bytes) (λ _. p-sent-ready e s)))))
  p-slotted (PollDataOut k) n = p-staged 2 (p-poll-data-out c k)
  p-slotted (BeginDataIn bytes first last) n = p-staged 2
      (p-within _ (p-unless-setup (p-then (p-put-control c _ refl) (p-resultless
      (p-then (p-fill0 c bytes) (p-then (p-modify-ep c In 0 _ (λ _. refl)) (p-then (p-when last (λ _. p-closing-out))
      (p-then (p-modify-ep c In 0 _ (λ _. refl)) (p-then (p_write EpTLen 0 _) (p-acks In first))))))))))

  p-other : (o : Other) → Pair c st (SameAnswer c.number) (code (other o)) (code (other o))
  p-other (Allocate dir kind address maximum interval) = p-early
  p-other (AllocateAll bytes) = p-early
  p-other (Start maximum) = p-early
  p-other BusPoll = p-staged 2 (p-operation (p-poll c))
  p-other BusEnable = p-staged 2 (p-resultless (p-modify-reg Ctrl 0 _ (λ v v' h. h)))
  p-other BusDisable = p-staged 2 (p-resultless (p_ret tt))
  p-other Microframe = p-staged 2 (p-operation (p-reads FrameNo 0 (λ v v' h. h) (λ v. p_ret refl)))
  p-other (SetStalled dir e onn) = p-staged 2 (p-named-or-0 dir e (p-resultless (p-stalled dir e onn)))
  p-other (IsStalled dir e) = p-staged 2 (p-named-or-0 dir e
      (p-operation (p-reads (ctrl_of dir) e (ctrl-steady c st dir) (λ v. p_ret refl))))
  p-other (SetPaced e onn) = p-staged 2 (p-numbered e (p-then
      (p-globals c (λ g _. p-then (p-assign c _) (p-put-paced c e _))) (p_ret (same _))))
  p-other (Advance e) = p-staged 2 (p-numbered e (p-resultless (p-advance e)))
  p-other (BeginRead e k) = p-staged 2
      (p-named Out e (p-enabled Out e (p_ret (same _)) (p-plain-any c Out e (λ s r n k _. p-unless _ 10
      (p-then (p-put-request c Out e _) (p-resultless (p-arm-read e s r
      (λ u. n (λ z. true≢false (sym (k z) ∙ u))))))))))
  p-other BeginSetup = p-staged 2 (p-then (p-put-control c _ refl) (p-resultless (p_ret tt)))
  p-other PollSetup = p-staged 2 (p-requested _ (λ v. p-globals c
      (λ g _. p_test _ (λ _. p-then (p-assign c _) (p-ends-control _)) (λ _. p_ret (same _)))))
  p-other PollDataIn = p-staged 2 (p-requested _ (λ v. p_test _ (λ _. p-take-closing false v) (λ _. p-take-in v)))
  p-other BeginAccept = p-staged 2 (p-unless-setup (p-then (p-put-control c _ refl) (p-resultless p-status-in)))
  p-other PollAccept = p-staged 2 (p-requested _ (λ v. p-plain-in c 0 (λ s _. p_test _
      (λ _. p-then (p-modify-ep c In 0 _ (λ _. refl))
      (p-then (p-put-control c _ refl) (p_test _ (λ _. p-resultless (p_write DevAd 0 _)) (λ _. p_ret (same _)))))
      (λ _. p-aborted (p_ret (same _))))))
  p-other BeginReject = p-staged 2 (p-then (p-put-control c _ refl) (p-resultless
      (p-then (p-modify-ep c Out 0 _ (λ _. refl)) (p-then (p-modify-ep c In 0 _ (λ _. refl))
      (p-then (p-modify-reg EpTxCtrl 0 _ (λ v v' h. h)) (p-modify-reg EpRxCtrl 0 _ (λ v v' h. h)))))))
  p-other (BeginDataOut k first) = p-staged 2 (p-begin-data-out c k
      (p-resultless (p-then (p-modify-ep c Out 0 _ (λ _. refl)) (p-acks Out first))))
  p-other (BeginAcceptSetAddress a) = p-staged 2 (p-unless-setup
      (p-then (p-put-control c _ refl) (p-resultless p-status-in)))

  pub p-call : (o : Op) → Common c.number o → PairBy c st true (SameAnswer c.number) (code o) (code o)
  p-call interrupt n = p-interrupt c st
  p-call (slotted o) n = p-later (p-slotted o n)
  p-call (other o) n = p-later (p-other o)
  p-call (aside o) n = p-later (p-aside c st o n)

-- no call is left out
pub each-call : (x : ℕ) (o : Op) → Common x o ⊎ OfChannel x o
each-call x interrupt = inl tt
each-call x (slotted (SetEnabled dir e onn)) = inl tt
each-call x (slotted (PollRead e n)) = elim (ℕ_discrete (key Out e) (key Out x)) [
  | yes p ↦ inr (polls e n p)
  | no p ↦ inl p
]
each-call x (slotted (BeginWrite e bytes)) = inl tt
each-call x (slotted (PollWrite e bytes)) = inl tt
each-call x (slotted (PollDataOut n)) = inl tt
each-call x (slotted (BeginDataIn bytes first last)) = inl tt
each-call x (other o) = inl tt
each-call x (aside (Open e)) = elim (ℕ_discrete (key Out e) (key Out x)) [
  | yes p ↦ inr (passes (Open e) p)
  | no p ↦ inl p
]
each-call x (aside (Close e)) = elim (ℕ_discrete (key Out e) (key Out x)) [
  | yes p ↦ inr (passes (Close e) p)
  | no p ↦ inl p
]
each-call x (aside (Queue e bytes)) = inl tt
