-- The interrupt's parts that know nothing of the channel: isochronous IN, waits, toggles
use Rattle.std.specs.Prelude.{Bool, true, false, ◌≡◌, refl}
use mathlib.Core.List.{List, [], ◌∷◌}
use Rattle.std.proofs.Common.{subst, sym, ◌∙◌}
use Prim.Native.Nat.{ℕ, zero, suc}
use Rattle.regs.specs.declared.Reg.{Reg}
use Rattle.regs.specs.declared.Reg.TheVariants.{IntFg, IntSt, MisSt, RxLen, FrameNo, Ctrl, IntEn, DevAd, HostCtrl}
use Rattle.regs.specs.declared.Reg.TheVariants.{EpConfig, EpType, EpBufMod, EpMaxLen, EpTLen, EpRxCtrl, EpTxCtrl}
use Rattle.regs.specs.declared.Access.{Access}
use Rattle.regs.specs.declared.Access.TheVariants.{Read}
use Rattle.regs.specs.declared.Dir.{Dir}
use Rattle.regs.specs.declared.Dir.TheVariants.{Out, In}
use Rattle.regs.specs.Registers.{ctrl_of}
use Rattle.regs.specs.Status.{token, token_numbered, is_in}
use Rattle.script.specs.Cells.{ep-cell}
use Rattle.script.specs.Tree as tree
use Rattle.script.specs.Tree.{asks, bind_out}
use Rattle.script.specs.Script.{Script, run, bind, test, done, ◌>>=◌, ◌>>◌, read, write, look, hand, complete, send}
use Rattle.script.specs.Script.{waiting, next_len_lem}
use Rattle.script.specs.Every.{same_reg}
use Rattle.script.specs.Simulates.{quiet}
use Rattle.frame.specs.Usb20.{index_of, frame_of}
use Rattle.frame.specs.Advance.{previous}
use Rattle.script.specs.Statics.{with_last_frame, modify_reg, modify_int_en, wake}
use Rattle.script.specs.IsoIn.{first_in_frame, iso_in_load, iso_in_complete, leaving, unseen, sof_one, sof_walk, on_sof}
use Rattle.script.specs.IsoIn.{late_walk}
use Rattle.script.specs.Handler.{looks, sie_wait, out_naks, nak_non_iso, repeated, toggled, sent, sof_arm, iso_in_arm, moved_on}
use Rattle.script.specs.Handler.{ep0_moved_on}
use Rattle.regs.specs.declared.Token.{Token}
use Rattle.regs.specs.declared.Token.TheVariants as tok
use Rattle.script_ops.specs.Rings.{St}
use Rattle.script_ops.specs.Concrete.{concrete, is_of, act_on, put_on, get_on}
use Rattle.proof_isolation.specs.EqualExcept.{Channel}
use Rattle.proof_isolation.specs.Whose.{receives, sof}
use Rattle.proof_isolation.specs.Apart.{Reads, Next, next, elsewhere, SameNext, same_next, nexts, ApartBy, both}
use Rattle.proof_isolation.specs.Apart.{PairBy, Pair}
use Rattle.proof_isolation.specs.PairsLaws.{rests, Eq, Any, p_ret, p_bind, p-same, p-then, p_test, p-when, p_read}
use Rattle.proof_isolation.specs.PairsLaws.{p_write}
use Rattle.proof_isolation.specs.PairsLaws.{p_callback, p_is, p_look, p-act}
use Rattle.proof_isolation.specs.PairsLaws.{p-hand}
use Rattle.proof_isolation.proofs.ValuesLaws.{p-assign, p-record, p-modify, p-modify-ep, p-wake, p-globals}
use Rattle.proof_isolation.proofs.ValuesLaws.{p-plain-in, p-plain-ep0, p-plain-any}
use Rattle.proof_isolation.proofs.InRingsLaws.{waiting_in, next-in, completes, sends}

-- the same value, of a register that is not the status
abbrev Same : Reg → ℕ → ℕ → Type 0
Same IntSt v v' = ⊥
Same RxLen v v' = v ≡ v'
Same IntFg v v' = v ≡ v'
Same MisSt v v' = v ≡ v'
Same FrameNo v v' = v ≡ v'
Same Ctrl v v' = v ≡ v'
Same IntEn v v' = v ≡ v'
Same DevAd v v' = v ≡ v'
Same HostCtrl v v' = v ≡ v'
Same EpConfig v v' = v ≡ v'
Same EpType v v' = v ≡ v'
Same EpBufMod v v' = v ≡ v'
Same EpMaxLen v v' = v ≡ v'
Same EpTLen v v' = v ≡ v'
Same EpRxCtrl v v' = v ≡ v'
Same EpTxCtrl v v' = v ≡ v'

-- a register whose readings are the same, but for the status
abbrev pub Steady : Channel → ℕ → Reg → Type 0
Steady c st r = (v v' : ℕ) → Reads c.number st r v v' → Same r v v'

pub ctrl-steady : (c : Channel) (st : ℕ) (dir : Dir) → Steady c st (ctrl_of dir)
ctrl-steady c st Out v v' h = h
ctrl-steady c st In v v' h = h

steady-same : (c : Channel) (st : ℕ) (r : Reg) → Steady c st r → (v v' : ℕ) → Reads c.number st r v v' → v ≡ v'
steady-same c st IntSt z v v' h = absurd (z st st (refl, refl))
steady-same c st RxLen z v v' h = z v v' h
steady-same c st IntFg z v v' h = h
steady-same c st MisSt z v v' h = h
steady-same c st FrameNo z v v' h = h
steady-same c st Ctrl z v v' h = h
steady-same c st IntEn z v v' h = h
steady-same c st DevAd z v v' h = h
steady-same c st HostCtrl z v v' h = h
steady-same c st EpConfig z v v' h = h
steady-same c st EpType z v v' h = h
steady-same c st EpBufMod z v v' h = h
steady-same c st EpMaxLen z v v' h = h
steady-same c st EpTLen z v v' h = h
steady-same c st EpRxCtrl z v v' h = h
steady-same c st EpTxCtrl z v v' h = h

no-status : (c : Channel) (st : ℕ) (r : Reg) → Steady c st r → same_reg r IntSt ≡ false
no-status c st IntSt z = absurd (z st st (refl, refl))
no-status c st RxLen z = refl
no-status c st IntFg z = refl
no-status c st MisSt z = refl
no-status c st FrameNo z = refl
no-status c st Ctrl z = refl
no-status c st IntEn z = refl
no-status c st DevAd z = refl
no-status c st HostCtrl z = refl
no-status c st EpConfig z = refl
no-status c st EpType z = refl
no-status c st EpBufMod z = refl
no-status c st EpMaxLen z = refl
no-status c st EpTLen z = refl
no-status c st EpRxCtrl z = refl
no-status c st EpTxCtrl z = refl

-- where neither is a receive address
receives-not : {x : ℕ} {A : Type 0} {q : Access} {s : St} {k : ℕ → St → tree.Out St A} → Next x (asks q s k)
    → receives x q ≡ false
receives-not (next h) = h

pub nexts-of : {A B : Type 0} {o : tree.Out St A} {u : tree.Out St B} → ((x : ℕ) → Next x o) → ((x : ℕ) → Next x u)
    → SameNext o u
nexts-of h h' = by (h 0) (h' 0) h h'
  where
    by : {A B : Type 0} {o : tree.Out St A} {u : tree.Out St B} → Next 0 o → Next 0 u → ((x : ℕ) → Next x o)
        → ((x : ℕ) → Next x u) → SameNext o u
    by (next a) (next b) h h' = same_next (λ x. receives-not (h x) ∙ sym (receives-not (h' x)))

-- its transmit address or its length is next
load-next : (x : ℕ) (i : Bool) (e : ℕ) (s : St) → Next x (run {i = i} concrete (iso_in_load e >> wake In e) s)
load-next x i e s = by (is_of (waiting In e) s)
  where
    by : (b : Bool) → Next x
        (bind_out (run {i = i} concrete (test b (hand (send e) >> (look (next_len_lem In e) >>= λ n. write EpTLen e n))
        (write EpTLen e 0)) s)
        (λ _ t. run {i = i} concrete (wake In e) t))
    by true = next refl
    by false = next refl

-- so where the status shows no IN
sof-next : (x : ℕ) (i : Bool) (frame e : ℕ) (s : St) → Next x
    (run {i = i} concrete (test (leaving sof e) done (unseen frame e)) s)
unfolding leaving is_in token token_numbered
sof-next x i frame e s = load-next x i e (run_of frame e s)
  where
    run_of : ℕ → ℕ → St → St
    run_of frame e s = act_on (complete e) (put_on (ep-cell In e)
        (with_last_frame (frame_of (previous (index_of frame))) (get_on (ep-cell In e) s)) s)

module _ {c : Channel} {st : ℕ} {i : Bool} where
  pub p-reads : {m : Bool} {A B : Type 0} {Q : A → B → Type 0} (r : Reg) (e : ℕ)
      → Steady c st r → {f : ℕ → Script i A} {g : ℕ → Script i B}
      → ((v : ℕ) → PairBy c st m Q (f v) (g v)) → PairBy c st m Q (bind (read r e) f) (bind (read r e) g)
  p-reads {m} {Q = Q} r e z {f} {g} h = p_bind (p_read r e (no-status c st r z))
      (λ v v' b. subst (λ y. PairBy c st m Q (f v) (g y)) (steady-same c st r z v v' b) (h v))

  -- the status word is the same throughout the interrupt; one that shows no OUT does not lead to the channel's receive
  -- address
  pub p-status : {m : Bool} {A B : Type 0} {Q : A → B → Type 0} {f : ℕ → Script i A} {g : ℕ → Script i B}
      → ((s : St) → Next c.number (run concrete (f sof) s)) → ((s : St) → Next c.number (run concrete (g sof) s))
      → ((s t : St) → SameNext (run concrete (f sof) s) (run concrete (g sof) t))
      → PairBy c st m Q (f st) (g st) → PairBy c st m Q (bind (read IntSt 0) f) (bind (read IntSt 0) g)
  p-status {m} {Q = Q} {f} {g} n n' w h = record {
    on = λ s t l. both {q = Read IntSt 0} quiet (rests i, λ _ s t. nexts (w s t)) (λ _ s. elsewhere (n s))
        (λ _ s. elsewhere (n' s)) l (λ v v' s t b r.
        subst (λ y. ApartBy c st i Q m (run concrete (f v) s) (run concrete (g y) t)) (sym b.1)
        (subst (λ y. ApartBy c st i Q m (run concrete (f y) s) (run concrete (g st) t)) (sym b.0) (h.on s t r)));
  }

  pub p-modify-reg : (r : Reg) (e : ℕ) (f : ℕ → ℕ) → Steady c st r
      → Pair c st {i = i} Any (modify_reg r e f) (modify_reg r e f)
  p-modify-reg r e f z = p-reads r e z (λ v. p_write r e (f v))

  pub p-int-en : (f : ℕ → ℕ) → Pair c st {i = i} Any (modify_int_en f) (modify_int_en f)
  p-int-en f = p-globals c (λ g _. p-then (p-assign c _) (p_write IntEn 0 _))

  -- ---- isochronous IN

  pub p_load : (e : ℕ) → Pair c st {i = i} Any (iso_in_load e) (iso_in_load e)
  p_load e = p-same (p_is (waiting In e) (waiting_in c e)) (λ b. p_test b
      (λ _. p-then (p-hand (send e) (λ _. refl) (sends c e))
      (p-same (p_look (next_len_lem In e) (next-in c e)) (λ n. p_write EpTLen e n)))
      (λ _. p_write EpTLen e 0))

  pub p-complete : (e : ℕ) → Pair c st {i = i} Any (iso_in_complete e) (iso_in_complete e)
  p-complete e = p-then (p-act (complete e) (completes c e)) (p-then (p_load e) (p-wake c In e))

  pub p-first : (e frame : ℕ) → Pair c st {i = i} Eq (first_in_frame e frame) (first_in_frame e frame)
  p-first e frame = p-plain-in c e (λ p _. p-then (p-record c In e _) (p_ret refl))

  p-unseen : (frame e : ℕ) → Pair c st {i = i} Any (unseen frame e) (unseen frame e)
  p-unseen frame e = p-then (p-modify-ep c In e _ (λ _. refl)) (p-complete e)

  p-sof-one : (frame e : ℕ) → Pair c st {i = i} Any (sof_one frame e) (sof_one frame e)
  p-sof-one frame e = p-plain-in c e (λ p _. p_test _ (λ _. p_ret tt) (λ _. p-reads MisSt 0 (λ v v' h. h) (λ m. p_test _
      (λ _. p-unseen frame e)
      (λ _. p-status (sof-next c.number i frame e) (sof-next c.number i frame e)
      (λ s t. nexts-of (λ x. sof-next x i frame e s) (λ x. sof-next x i frame e t))
      (p_test _ (λ _. p_ret tt) (λ _. p-unseen frame e))))))

  p-sof-walk : (frame : ℕ) (es : List ℕ) → Pair c st {i = i} Any (sof_walk frame es) (sof_walk frame es)
  unfolding sof_walk
  p-sof-walk frame [] = p_ret tt
  p-sof-walk frame (e ∷ es) = p-then (p-sof-one frame e) (p-sof-walk frame es)

  pub p-sof : (frame : ℕ) → Pair c st {i = i} Any (on_sof frame) (on_sof frame)
  p-sof frame = p-then (p-modify c _) (p-globals c (λ g _. p-then (p-sof-walk frame _)
      (p-globals c (λ g _. p-when _ (λ _. p_callback)))))

  pub p-late-walk : (frame : ℕ) (es : List ℕ) → Pair c st {i = i} Any (late_walk frame es) (late_walk frame es)
  unfolding late_walk
  p-late-walk frame [] = p_ret tt
  p-late-walk frame (e ∷ es) = p-then (p-same (p-first e frame) (λ b. p-when b (λ _. p-complete e)))
      (p-late-walk frame es)

  -- ---- waits, NAKs, toggles

  p-looks : (n : ℕ) → Pair c st {i = i} Any (looks n) (looks n)
  unfolding looks
  p-looks zero = p_ret tt
  p-looks (suc n) = p-reads MisSt 0 (λ v v' h. h) (λ m. p_test _ (λ _. p_ret tt) (λ _. p-looks n))

  pub p-sie-wait : Pair c st {i = i} Any sie_wait sie_wait
  p-sie-wait = p-looks 2001

  pub p-nak : (w : ℕ) → Pair c st {i = i} Any (nak_non_iso w) (nak_non_iso w)
  unfolding out_naks
  p-nak w = p-plain-any c Out _
      (λ o r _ _ _. p-plain-in c _
      (λ n _. p_test _ (λ _. p-modify-reg EpRxCtrl _ _ (λ v v' h. h))
      (λ _. p-when _ (λ _. p-modify-reg EpTxCtrl _ _ (λ v v' h. h)))))

  pub p-toggled : (dir : Dir) (e : ℕ) → Pair c st {i = i} Eq (toggled dir e) (toggled dir e)
  unfolding repeated
  p-toggled dir e = p-then p-sie-wait (p-reads (ctrl_of dir) e (ctrl-steady c st dir)
      (λ w. p-plain-any c dir e (λ s r _ _ _. p_test _
      (λ _. p-then (p-when _ (λ _. p-modify-reg (ctrl_of dir) e _ (ctrl-steady c st dir))) (p_ret refl))
      (λ _. p-then (p-modify-ep c dir e _ (λ _. refl)) (p_ret refl)))))

  -- ---- arms

  pub p-sent : (e : ℕ) → Pair c st {i = i} Any (sent e) (sent e)
  p-sent e = p-then (p-modify-ep c In e _ (λ _. refl)) (p-wake c In e)

  pub p-sof-arm : (frame : ℕ) → Pair c st {i = i} Any (sof_arm frame) (sof_arm frame)
  p-sof-arm frame = p-globals c (λ g _. p-when _ (λ _. p-sof frame))

  pub p-iso-in : (e frame : ℕ) → Pair c st {i = i} Any (iso_in_arm e frame) (iso_in_arm e frame)
  p-iso-in e frame = p-globals c (λ g _. p_test _ (λ _. p_ret tt)
      (λ _. p-same (p-first e frame) (λ b. p-when b (λ _. p-complete e))))

  p-moved : (dir : Dir) → Pair c st {i = i} Any (moved_on dir) (moved_on dir)
  p-moved dir = p-plain-ep0 c dir
      (λ s _. p-when _
      (λ _. p-then (p-modify-reg (ctrl_of dir) 0 _ (ctrl-steady c st dir))
      (p-then (p-modify-ep c dir 0 _ (λ _. refl)) (p-wake c dir 0))))

  pub p-ep0-moved : (t : Token) → Pair c st {i = i} Any (ep0_moved_on t) (ep0_moved_on t)
  p-ep0-moved tok.Out = p-moved In
  p-ep0-moved tok.In = p-moved Out
  p-ep0-moved tok.Sof = p_ret tt
  p-ep0-moved tok.Setup = p_ret tt
