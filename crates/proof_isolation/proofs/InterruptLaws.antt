-- The interrupt (mod.rs 634-852) of two runs: they line up by the accesses not made for the channel
use Rattle.std.specs.Prelude.{Bool, ◌&&◌, ◌≢◌, ◌≡◌, refl, ℕ, suc, ◌<◌}
use Rattle.std.proofs.Math.Bool.{true, false, not, cond}
use Rattle.std.proofs.Common.{true≢false, inl, inr, sym, ◌∙◌, arith, eqb-true, ne_eqb}
use mathlib.Core.List.{List, [], ◌∷◌}
use Rattle.std.proofs.Math.Path.{ap, subst}
use Rattle.std.proofs.Math.Decide.{ℕ_discrete}
use Rattle.std.proofs.Math.Dec.{eqb}
use Rattle.bits.specs.WalkLaws as walk-laws
use Rattle.bits.specs.Walk.{set_bits}
use Rattle.bits.specs.WalkLaws.{walked-set, walk-rises}
use Rattle.regs.specs.declared.Reg.TheVariants.{IntFg, IntSt, MisSt, RxLen, FrameNo, EpRxCtrl, EpTxCtrl}
use Rattle.regs.specs.declared.Dir.{Dir}
use Rattle.regs.specs.declared.Dir.TheVariants.{Out, In}
use Rattle.regs.specs.declared.Token.{Token}
use Rattle.regs.specs.declared.Token.TheVariants as tok
use Rattle.regs.specs.Status.{endpoint, token, token_numbered, out_token, is_out, is_in, tog_ok}
use Rattle.regs.specs.Flags.{transfer, setup_act}
use Rattle.regs.specs.MisStatus.{sie_free}
use Rattle.state.specs.Driver.{key}
use Rattle.script.specs.declared.Transfer.{Transfer}
use Rattle.script.specs.Cells.{EpCore, globals-cell, ep-cell}
use Rattle.script.specs.Script.{Script, run, ret, bind, test, done, ◌>>=◌, ◌>>◌, read, get, look, changed, marked}
use Rattle.script.specs.Script.{arrive, setup_word}
use Rattle.script.specs.Statics.{is_on, iso_outs, with_ready}
use Rattle.script.specs.IsoOut.{arriving, entry, arrives, check_one, check_walk, iso_out_check}
use Rattle.script.specs.Handler.{sie_wait, nak_non_iso, out_naks, in_naks, same_out, late_taken, waited, retaken, released}
use Rattle.script.specs.Handler.{waits_for_iso, waits_for_bulk, retake, settle, iso_for, own_in, received, out_arm, in_arm}
use Rattle.script.specs.Handler.{dispatch, served, framed, on_transfer, on_setup, on_interrupt, stamped_interrupt}
use Rattle.script.specs.Calls.{interrupt_code}
use Rattle.script.specs.SortsWalks.{among-outs}
use Rattle.script_ops.specs.Rings.{St}
use Rattle.script_ops.specs.Concrete.{concrete}
use Rattle.proof_isolation.specs.LikesLaws.{and-false}
use Rattle.proof_isolation.specs.EqualExcept.{Channel}
use Rattle.proof_isolation.specs.Whose.{sof}
use Rattle.proof_isolation.specs.Apart.{Next, next, PairBy, Pair, SameNext, same_next}
use Rattle.proof_isolation.specs.PairsLaws.{Any, p_ret, p_bind, p-same, p-then, p-before-then, p_test, p-tests}
use Rattle.proof_isolation.specs.PairsLaws.{p-bind-test, p-when, p_read, p_write, p_is, p_look, p-hand}
use Rattle.proof_isolation.specs.Answers.{SameAnswer}
use Rattle.proof_isolation.proofs.AnswersLaws.{p-staged, p-resultless}
use Rattle.proof_isolation.proofs.ValuesLaws.{p-modify, p-modify-ep, p-wake, p-wake-bus, p-globals, p-plain-in}
use Rattle.proof_isolation.proofs.ValuesLaws.{p-plain-any}
use Rattle.proof_isolation.proofs.InRingsLaws.{setup-same}
use Rattle.proof_isolation.specs.OutRingsLaws.{changed-same, marked-len-same, arrives_same}
use Rattle.proof_isolation.proofs.OwnStepsLaws.{p-own-check}
use Rattle.proof_isolation.specs.WithoutLaws.{q_when, q-moved-on, q-setup, later-without}
use Rattle.proof_isolation.proofs.WalksLaws.{nexts-of, p-reads, p-status, p-modify-reg, p-int-en, p-sof}
use Rattle.proof_isolation.proofs.WalksLaws.{p-late-walk, p-sie-wait}
use Rattle.proof_isolation.proofs.WalksLaws.{p-nak, p-toggled, p-sof-arm, p-iso-in, p-sent, p-ep0-moved}

-- ---- the transfer that is served: its length, and whether it is the packet's, may differ where the status shows OUT
-- for the channel

abbrev transfer_of : Bool → ℕ → Bool → ℕ → Bool → Transfer
transfer_of busy st late n ok = record { busy = busy; st = st; len = n; late = late; len_ok = ok }

record SameTransfer (x st : ℕ) (a b : Transfer) : Type 0 where
  status : a.st ≡ st
  status' : b.st ≡ st
  busy : a.busy ≡ b.busy
  late : a.late ≡ b.late
  others : arriving st x ≡ false → (a.len ≡ b.len) × (a.len_ok ≡ b.len_ok)

-- ---- what the status says

out-token : (t : Token) → out_token t ≡ true → t ≡ tok.Out
out-token tok.Out h = refl
out-token tok.Sof h = absurd (true≢false (sym h))
out-token tok.In h = absurd (true≢false (sym h))
out-token tok.Setup h = absurd (true≢false (sym h))

and_both : (a b : Bool) → (a && b) ≡ true → (a ≡ true) × (b ≡ true)
and_both true true h = (refl, refl)
and_both true false h = absurd (true≢false (sym h))
and_both false b h = absurd (true≢false (sym h))

arriving-out : (st x : ℕ) → arriving st x ≡ true → (token st ≡ tok.Out) × (endpoint st ≡ x)
unfolding arriving is_out
arriving-out st x h = let p = and_both (out_token (token st)) (eqb (endpoint st) x) h in
    (out-token (token st) p.0, eqb-true (endpoint st) x p.1)

-- one status, one endpoint
arriving-other : (st x e : ℕ) → e ≢ x → arriving st x ≡ true → arriving st e ≡ false
unfolding arriving
arriving-other st x e n h = ap (λ b. is_out st && b) (ne_eqb (endpoint st) e (λ z. n (sym z ∙ (arriving-out st x h).1)))
    ∙ and-false (is_out st)

no_entry : (y : Transfer) (iso : Bool) (e : ℕ) → arriving y.st e ≡ false → entry y iso e ≡ false
unfolding entry
no_entry y iso e h =
    ap (λ b. not y.busy && (y.len_ok && (iso && (tog_ok y.st && b)))) h
    ∙ ap (λ b. not y.busy && (y.len_ok && (iso && b))) (and-false (tog_ok y.st))
    ∙ ap (λ b. not y.busy && (y.len_ok && b)) (and-false iso)
    ∙ ap (λ b. not y.busy && b) (and-false y.len_ok)
    ∙ and-false (not y.busy)

-- what is known of the two lengths, and of whether they are the packet's
abbrev Lengths : ℕ → ℕ → ℕ → ℕ → Bool → Bool → Type 0
Lengths x st n n' o o' = arriving st x ≡ false → (n ≡ n') × (o ≡ o')

module _ (x st : ℕ) (busy late : Bool) (n n' : ℕ) (o o' : Bool) (h : Lengths x st n n' o o') where
  entry-same : (iso : Bool) (e : ℕ) → e ≢ x → (u : Bool)
      → arriving st x ≡ u → entry (transfer_of busy st late n o) iso e ≡ entry (transfer_of busy st late n' o') iso e
  entry-same iso e m true w = no_entry (transfer_of busy st late n o) iso e (arriving-other st x e m w)
      ∙ sym (no_entry (transfer_of busy st late n' o') iso e (arriving-other st x e m w))
  entry-same iso e m false w = ap (λ k. entry (transfer_of busy st late k o) iso e) (h w).0
      ∙ ap (λ k. entry (transfer_of busy st late n' k) iso e) (h w).1

  len-used : (iso : Bool) (e : ℕ) → e ≢ x → (u : Bool) → arriving st x ≡ u → entry (transfer_of busy st late n o) iso e
      ≡ true → n ≡ n'
  len-used iso e m true w z = absurd (true≢false (sym z
      ∙ no_entry (transfer_of busy st late n o) iso e (arriving-other st x e m w)))
  len-used iso e m false w z = (h w).0

other_key : (x e : ℕ) → x < 16 → e < 16 → e ≢ x → key Out e ≢ key Out x
unfolding key
other_key x e p q n z = n (omega (arith, z))

-- with its status, the channel is isochronous
iso-sure : (c : Channel) (st : ℕ) (o n : EpCore) → is_on o.iso ≡ c.iso Out (endpoint st) → arriving st c.number
    ≡ true → iso_for (token st) o n ≡ true
unfolding iso_for
iso-sure c st o n s w =
    let z = arriving-out st c.number w in
    ap (λ t. iso_for t o n) z.0 ∙ s ∙ ap (λ e. c.iso Out e) z.1 ∙ c.receives

-- what follows the reading of the two records
abbrev after_plain : Transfer → Bool → Script true Unit
after_plain x iso = read FrameNo 0 >>= λ frame. get globals-cell >>= λ g. served (framed x iso g.sof_frame frame)
    iso frame

-- whether it is isochronous is not told by `ready`
iso-ready : (t : Token) (o n : EpCore) (r : ℕ) → iso_for t (with_ready r o) n ≡ iso_for t o n
unfolding iso_for
iso-ready tok.Out o n r = refl
iso-ready tok.Sof o n r = refl
iso-ready tok.In o n r = refl
iso-ready tok.Setup o n r = refl

other-number : (c : Channel) (e : ℕ) → key Out e ≢ key Out c.number → eqb e c.number ≡ false
other-number c e k = ne_eqb e c.number (λ z. k (ap (λ a. key Out a) z))

-- with a status that shows no OUT the receive address of another endpoint is next
check-next : (c : Channel) (e : ℕ) → key Out e ≢ key Out c.number → (s : St)
    → Next c.number (run {i = true} concrete (test (arriving sof e) done (look (marked e) >>= λ n. arrives e n)) s)
unfolding arriving is_out token token_numbered
check-next c e k s = next (other-number c e k)

check-same : (e : ℕ) (s t : St) → SameNext (run {i = true} concrete
    (test (arriving sof e) done (look (marked e) >>= λ n. arrives e n)) s)
    (run {i = true} concrete (test (arriving sof e) done (look (marked e) >>= λ n. arrives e n)) t)
unfolding arriving is_out token token_numbered
check-same e s t = same_next (λ x. refl)

module _ {c : Channel} {st : ℕ} where
  -- ---- the check of arrivals

  p-arrives : (e n : ℕ) → key Out e ≢ key Out c.number → Pair c st {i = true} Any (arrives e n) (arrives e n)
  p-arrives e n k = p-then (p-hand (arrive e n) (λ _. other-number c e k) (arrives_same c e n k)) (p-wake c Out e)

  -- of another endpoint
  p-check : (y y' : Transfer) (iso : Bool) (e : ℕ) → key Out e ≢ key Out c.number
      → c.iso Out e ≡ true → entry y iso e ≡ entry y' iso e → (entry y iso e ≡ true → y.len ≡ y'.len)
      → Pair c st {i = true} Any (check_one y iso e) (check_one y' iso e)
  p-check y y' iso e k f same len = p-same (p_is (changed e) (changed-same c e k f)) (λ b. p-when b (λ _. p-tests same
      (λ w. subst (λ n. Pair c st {i = true} Any (arrives e y.len) (arrives e n)) (len w) (p-arrives e y.len k))
      (λ _. p-status (check-next c e k) (check-next c e k) (check-same e)
      (p_test _ (λ _. p_ret tt) (λ _. p-same (p_look (marked e) (marked-len-same c e k f)) (λ n. p-arrives e n k))))))

  module _ (busy late : Bool) (n n' : ℕ) (o o' : Bool) (h : Lengths c.number st n n' o o') (iso : Bool) where
    p-check-other : (e : ℕ) → e ≢ c.number → (e < 16) × (c.iso Out e ≡ true)
        → Pair c st {i = true} Any (check_one (transfer_of busy st late n o) iso e)
        (check_one (transfer_of busy st late n' o') iso e)
    p-check-other e p z = p-check _ _ iso e (other_key c.number e c.below z.0 p) z.1
        (entry-same c.number st busy late n n' o o' h iso e p (arriving st c.number) refl)
        (len-used c.number st busy late n n' o o' h iso e p (arriving st c.number) refl)

    -- past the channel's number
    p-later-walk : (i : ℕ) → c.number < i → (es : List ℕ) → walk-laws.Rising i es
        → ((e : ℕ) → walk-laws.In e es → (e < 16) × (c.iso Out e ≡ true))
        → Pair c st {i = true} Any (check_walk (transfer_of busy st late n o) iso es)
        (check_walk (transfer_of busy st late n' o') iso es)
    unfolding check_walk
    p-later-walk i l [] r f = p_ret tt
    p-later-walk i l (e ∷ es) r f = p-then (p-check-other e (λ z. absurd (omega (arith, l, r.0, z))) (f e (inl refl)))
        (p-later-walk (suc e) (omega (arith, l, r.0)) es r.1 (λ a m. f a (inr m)))

    p-check-walk : (i : ℕ) (es : List ℕ) → walk-laws.Rising i es
        → ((e : ℕ) → walk-laws.In e es → (e < 16) × (c.iso Out e ≡ true))
        → PairBy c st true {i = true} Any (check_walk (transfer_of busy st late n o) iso es)
        (check_walk (transfer_of busy st late n' o') iso es)
    unfolding check_walk
    p-check-walk i [] r f = p_ret tt
    p-check-walk i (e ∷ es) r f = elim (ℕ_discrete e c.number) [
      | yes p ↦ subst
          (λ k. PairBy c st true {i = true} Any (check_one (transfer_of busy st late n o) iso k >> check_walk
          (transfer_of busy st late n o) iso es)
          (check_one (transfer_of busy st late n' o') iso k >> check_walk (transfer_of busy st late n' o') iso es)) (sym p)
          (p-own-check (transfer_of busy st late n o) (transfer_of busy st late n' o') iso
          (p-later-walk (suc e) (omega (arith, p)) es r.1 (λ a m. f a (inr m)))
          (λ a l s. later-without a (transfer_of busy st late n o) iso (suc e) es r.1 (omega (arith, p, l)) s)
          (λ a l s. later-without a (transfer_of busy st late n' o') iso (suc e) es r.1 (omega (arith, p, l)) s))
      | no p ↦ p-then (p-check-other e p (f e (inl refl))) (p-check-walk (suc e) es r.1 (λ a m. f a (inr m)))
    ]

  p-iso-out : (busy late : Bool) (n n' : ℕ) (o o' : Bool) → Lengths c.number st n n' o o' → (iso : Bool)
      → PairBy c st true {i = true} Any (iso_out_check (transfer_of busy st late n o) iso)
      (iso_out_check (transfer_of busy st late n' o') iso)
  p-iso-out busy late n n' o o' h iso = p-globals c (λ g s. p-check-walk busy late n n' o o' h iso 0
      (set_bits (iso_outs g)) (walk-rises (iso_outs g))
      (λ e m. let w = walked-set (iso_outs g) e m in (w.0, among-outs (c.iso Out) g s.0 e w.0 w.1)))

  -- ---- the arms

  p-received : (e n : ℕ) → Pair c st {i = true} Any (received e n) (received e n)
  p-received e n = p-then (p-modify-ep c Out e _ (λ _. refl)) (p-wake c Out e)

  p-out-arm : (y : Transfer) (iso : Bool) → Pair c st {i = true} Any (out_arm y iso) (out_arm y iso)
  p-out-arm y iso = p_test iso (λ _. p_ret tt) (λ _. p_test _
      (λ _. p-when _ (λ _. p-then (p-modify-reg EpRxCtrl 0 _ (λ v v' h. h)) (p-received 0 _)))
      (λ _. p-same (p-toggled Out _) (λ b. p-when b (λ _. p-received _ _))))

  p-in-arm : (y : Transfer) (iso : Bool) (frame : ℕ) → Pair c st {i = true} Any (in_arm y iso frame) (in_arm y iso frame)
  p-in-arm y iso frame = p_test iso (λ _. p-iso-in _ frame) (λ _. p_test _
      (λ _. p-then (p-modify-reg EpTxCtrl 0 _ (λ v v' h. h)) (p-then (p-modify-ep c In 0 _ (λ _. refl)) (p-sent 0)))
      (λ _. p-same (p-toggled In _) (λ b. p-when b (λ _. p-sent _))))

  -- where the lengths may differ the endpoint is isochronous, and its length is not used here
  p-out : (busy late : Bool) (n n' : ℕ) (o o' : Bool) → Lengths c.number st n n' o o'
      → (iso : Bool) → (u : Bool) → arriving st c.number ≡ u → (arriving st c.number ≡ true → iso ≡ true)
      → Pair c st {i = true} Any (out_arm (transfer_of busy st late n o) iso) (out_arm (transfer_of busy st late n' o') iso)
  p-out busy late n n' o o' h iso true w sure =
      subst (λ z. Pair c st {i = true} Any (out_arm (transfer_of busy st late n o) z)
      (out_arm (transfer_of busy st late n' o') z))
      (sym (sure w)) (p_test true (λ _. p_ret tt) (λ z. absurd (true≢false z)))
  p-out busy late n n' o o' h iso false w sure =
      subst (λ k. Pair c st {i = true} Any (out_arm (transfer_of busy st late n o) iso)
      (out_arm (transfer_of busy st late k o') iso))
      (h w).0 (p-out-arm (transfer_of busy st late n o) iso)

  p-dispatch : (t : Token) (busy late : Bool) (n n' : ℕ) (o o' : Bool)
      → Lengths c.number st n n' o o' → (iso : Bool) → (arriving st c.number ≡ true → iso ≡ true) → (frame : ℕ)
      → Pair c st {i = true} Any (dispatch t (transfer_of busy st late n o) iso frame)
      (dispatch t (transfer_of busy st late n' o') iso frame)
  p-dispatch tok.Sof busy late n n' o o' h iso sure frame = p-sof-arm frame
  p-dispatch tok.Out busy late n n' o o' h iso sure frame
      = p-out busy late n n' o o' h iso (arriving st c.number) refl sure
  p-dispatch tok.In busy late n n' o o' h iso sure frame = p-in-arm (transfer_of busy st late n o) iso frame
  p-dispatch tok.Setup busy late n n' o o' h iso sure frame = p_ret tt

  p-served : (busy late : Bool) (n n' : ℕ) (o o' : Bool)
      → Lengths c.number st n n' o o' → (iso : Bool) → (arriving st c.number ≡ true → iso ≡ true) → (frame : ℕ)
      → PairBy c st true {i = true} Any (served (transfer_of busy st late n o) iso frame)
      (served (transfer_of busy st late n' o') iso frame)
  p-served busy late n n' o o' h iso sure frame = p-globals c (λ g _.
      p-then (p-when _ (λ _. p-sof frame))
      (p-then (p-when late (λ _. p-globals c (λ g _. p-late-walk frame _)))
      (p-then (p-when (not busy) (λ _. p-dispatch (token st) busy late n n' o o' h iso sure frame))
      (p-before-then (p-when _ (λ _. p-iso-out busy late n n' o o' h iso))
      (p-when _ (λ _. p-ep0-moved (token st)))
      (λ e s. (q_when (eqb (endpoint st) 0) (q-moved-on (token st))).on e s)
      (λ e s. (q_when (eqb (endpoint st) 0) (q-moved-on (token st))).on e s)))))

  p-framed : (u : Bool) (busy late : Bool) (n n' : ℕ) (o o' : Bool)
      → Lengths c.number st n n' o o' → (iso : Bool) → (arriving st c.number ≡ true → iso ≡ true) → (frame : ℕ)
      → PairBy c st true {i = true} Any (served (cond u (released (transfer_of busy st late n o))
      (transfer_of busy st late n o)) iso frame)
      (served (cond u (released (transfer_of busy st late n' o')) (transfer_of busy st late n' o')) iso frame)
  p-framed true busy late n n' o o' h iso sure frame = p-served false late n n' o o' h iso sure frame
  p-framed false busy late n n' o o' h iso sure frame = p-served busy late n n' o o' h iso sure frame

  -- ---- the transfer, 656-801

  -- goes on with two such transfers
  p-transfer : {m : Bool} {C D : Type 0} {Q : C → D → Type 0} {p p' : Script true Transfer}
      {f : Transfer → Script true C} {g : Transfer → Script true D}
      → Pair c st (SameTransfer c.number st) p p'
      → ((busy late : Bool) (n n' : ℕ) (o o' : Bool) → Lengths c.number st n n' o o'
      → PairBy c st m Q (f (transfer_of busy st late n o)) (g (transfer_of busy st late n' o')))
      → PairBy c st m Q (bind p f) (bind p' g)
  p-transfer {m} {Q = Q} {f = f} {g = g} h k = p_bind h (λ a b e.
      subst (λ w. PairBy c st m Q (f (transfer_of a.busy w a.late a.len a.len_ok)) (g b)) (sym e.status)
      (subst (λ w. PairBy c st m Q (f (transfer_of a.busy st a.late a.len a.len_ok))
      (g (transfer_of b.busy w b.late b.len b.len_ok))) (sym e.status')
      (subst (λ w. PairBy c st m Q (f (transfer_of a.busy st a.late a.len a.len_ok))
      (g (transfer_of w st b.late b.len b.len_ok))) e.busy
      (subst (λ w. PairBy c st m Q (f (transfer_of a.busy st a.late a.len a.len_ok))
      (g (transfer_of a.busy st w b.len b.len_ok))) e.late
      (k a.busy a.late a.len b.len a.len_ok b.len_ok e.others)))))

  p-bind-plain-in : {m : Bool} {T C D : Type 0} {Q : C → D → Type 0} (e : ℕ) {h h' : EpCore → Script true T}
      {f : T → Script true C} {g : T → Script true D}
      → ((p : EpCore) → PairBy c st m Q (bind (h p) f) (bind (h' p) g))
      → PairBy c st m Q (bind (bind (get (ep-cell In e)) h) f) (bind (bind (get (ep-cell In e)) h') g)
  p-bind-plain-in e {h} {h'} {f} {g} k = record {
    on = λ s t l. (p-plain-in c e {f = λ p. bind (h p) f}
        {g = λ p. bind (h' p) g} (λ p _. k p)).on s t l;
  }

  p-bind-plain-any : {m : Bool} {T C D : Type 0} {Q : C → D → Type 0}
      (dir : Dir) (e : ℕ) {h h' : EpCore → Script true T} {f : T → Script true C} {g : T → Script true D}
      → ((p : EpCore) (r : ℕ) → PairBy c st m Q (bind (h p) f) (bind (h' (with_ready r p)) g))
      → PairBy c st m Q (bind (bind (get (ep-cell dir e)) h) f) (bind (bind (get (ep-cell dir e)) h') g)
  p-bind-plain-any dir e {h} {h'} {f} {g} k = record {
    on = λ s t l. (p-plain-any c dir e {f = λ p. bind (h p) f} {g = λ p. bind (h' p) g} (λ p r _ _ _. k p r)).on s t l;
  }

  -- what goes on after it, f and g: with a status that shows no OUT it does not begin with the channel's receive
  -- address
  module _ {m : Bool} {C D : Type 0} {Q : C → D → Type 0} (f : Transfer → Script true C) (g : Transfer → Script true D)
      (nf : (y : Transfer) (x : ℕ) (s : St) → Next x (run concrete (f y) s)) (ng : (y : Transfer) (x : ℕ) (s : St)
      → Next x (run concrete (g y) s))
      (k : (busy late : Bool) (n n' : ℕ) (o o' : Bool) → Lengths c.number st n n' o o'
      → PairBy c st m Q (f (transfer_of busy st late n o)) (g (transfer_of busy st late n' o'))) where
    p-retake : (busy late : Bool) (n n' : ℕ) (o o' : Bool) → Lengths c.number st n n' o o'
        → PairBy c st m Q (bind (retake (transfer_of busy st late n o)) f)
        (bind (retake (transfer_of busy st late n' o')) g)
    unfolding out_naks in_naks is_out is_in token token_numbered
    p-retake busy late n n' o o' h = record { on = λ s t l. free.on s t l }
      where
        served-as : PairBy c st m Q (bind (ret (transfer_of busy st late n o)) f)
            (bind (ret (transfer_of busy st late n' o')) g)
        served-as = record { on = λ s t l. (k busy late n n' o o' h).on s t l }

        again : PairBy c st m Q (bind (read IntSt 0) (λ v. bind
            (nak_non_iso v >> ret (retaken (transfer_of busy st late n o) v)) f))
            (bind (read IntSt 0) (λ v. bind (nak_non_iso v >> ret (retaken (transfer_of busy st late n' o') v)) g))
        again = p-status (λ s. nf _ c.number s) (λ s. ng _ c.number s)
            (λ s t. nexts-of (λ x. nf _ x s) (λ x. ng _ x t))
            (p-transfer (p-then (p-nak st) (p_ret (record {
              status = refl;
              status' = refl;
              busy = refl;
              late
                  = refl;
              others = λ w. ((h w).0, refl);
            }))) k)

        flagged : (v : ℕ) → PairBy c st m Q
            (bind (test (transfer v) (ret (transfer_of busy st late n o))
            (read IntSt 0 >>= λ w. nak_non_iso w >> ret (retaken (transfer_of busy st late n o) w))) f)
            (bind (test (transfer v) (ret (transfer_of busy st late n' o'))
            (read IntSt 0 >>= λ w. nak_non_iso w >> ret (retaken (transfer_of busy st late n' o') w))) g)
        flagged v = p-bind-test (transfer v) (λ _. served-as) (λ _. record { on = λ s t l. again.on s t l })

        free : PairBy c st m Q
            (bind (read MisSt 0)
            (λ m. bind (test (sie_free m) (read IntFg 0 >>= λ v. test (transfer v) (ret (transfer_of busy st late n o))
            (read IntSt 0 >>= λ w. nak_non_iso w >> ret (retaken (transfer_of busy st late n o) w)))
            (ret (transfer_of busy st late n o))) f))
            (bind (read MisSt 0)
            (λ m. bind (test (sie_free m) (read IntFg 0 >>= λ v. test (transfer v) (ret (transfer_of busy st late n' o'))
            (read IntSt 0
            >>= λ w. nak_non_iso w >> ret (retaken (transfer_of busy st late n' o') w)))
            (ret (transfer_of busy st late n' o'))) g))
        free = p-reads MisSt 0 (λ v v' e. e) (λ m. p-bind-test (sie_free m) (λ _. record {
          on = λ s t l. (p-reads IntFg 0 (λ v v' e. e) flagged).on s t l;
        }) (λ _. served-as))

    p-settle : (busy late : Bool) (n n' : ℕ) (o o' : Bool) → Lengths c.number st n n' o o'
        → PairBy c st m Q (bind (settle (transfer_of busy st late n o)) f)
        (bind (settle (transfer_of busy st late n' o')) g)
    unfolding same_out waits_for_iso waits_for_bulk
    p-settle busy late n n' o o' h = p-bind-plain-any Out (endpoint st)
        (λ p r. p-bind-plain-in (endpoint st) (λ q. waits p q))
      where
        waits : (p q : EpCore) → PairBy c st m Q
            (bind (test (waits_for_iso (transfer_of busy st late n o) p)
            (sie_wait >> (read IntSt 0 >>= λ now. read RxLen 0 >>= λ len. ret
            (late_taken (transfer_of busy st late n o) now len)))
            (test (waits_for_bulk (transfer_of busy st late n o) q)
            (sie_wait >> (read RxLen 0 >>= λ len. ret (waited (transfer_of busy st late n o) len)))
            (test busy (retake (transfer_of busy st late n o)) (ret (transfer_of busy st late n o))))) f)
            (bind (test (waits_for_iso (transfer_of busy st late n' o') p)
            (sie_wait >> (read IntSt 0 >>= λ now. read RxLen 0 >>= λ len. ret
            (late_taken (transfer_of busy st late n' o') now len)))
            (test (waits_for_bulk (transfer_of busy st late n' o') q)
            (sie_wait >> (read RxLen 0 >>= λ len. ret (waited (transfer_of busy st late n' o') len)))
            (test busy (retake (transfer_of busy st late n' o')) (ret (transfer_of busy st late n' o'))))) g)
        waits p q = p-bind-test _
            (λ _. p-transfer (p-then p-sie-wait (p-status (λ s. next refl) (λ s. next refl)
            (λ s t. same_next (λ x. refl)) (p_bind (p_read RxLen 0 refl) (λ v v' r. p_ret (record {
              status = refl;
              status' = refl;
              busy = refl;
              late = refl;
              others = λ w. (r w, ap (λ k. not (eqb k 0) && (is_out st && eqb (endpoint st) (endpoint st))) (r w));
            }))))) k)
            (λ _. p-bind-test _
            (λ _. p-transfer (p-then p-sie-wait (p_bind (p_read RxLen 0 refl) (λ v v' r. p_ret (record {
              status = refl;
              status' = refl;
              busy = refl;
              late = refl;
              others = λ w. (ap (λ k. cond (eqb k 0) n k) (r w) ∙ ap (λ k. cond (eqb v' 0) k v') (h w).0, (h w).1);
            })))) k)
            (λ _. p-bind-test busy (λ _. p-retake busy late n n' o o' h)
            (λ _. record { on = λ s t l. (k busy late n n' o o' h).on s t l })))

  p-on-transfer : PairBy c st true {i = true} Any on_transfer on_transfer
  unfolding own_in
  p-on-transfer = p-reads MisSt 0 (λ v v' e. e) (λ m. p-status (λ s. next refl) (λ s. next refl)
      (λ s t. same_next (λ x. refl)) (p_bind (p_read RxLen 0 refl) (λ n n' h.
      p-then (p-when _ (λ _. p-nak st))
      (p-then (p_write IntFg 0 _)
      (p-settle _ _ (λ y x s. next refl) (λ y x s. next refl) (λ busy late k k' o o' l.
      p-plain-any c Out (endpoint st) (λ p r _ _ s. p-plain-in c (endpoint st) (λ q _.
      subst
      (λ u. PairBy c st true {i = true} Any (after_plain (transfer_of busy st late k o) (iso_for (token st) p q))
      (after_plain (transfer_of busy st late k' o') u)) (sym (iso-ready (token st) p q r))
      (p-reads FrameNo 0 (λ v v' e. e) (λ frame. p-globals c (λ g _.
      p-framed (own_in (transfer_of busy st late k o) (iso_for (token st) p q) g.sof_frame frame) busy late k k' o o'
      l
      (iso_for (token st) p q) (iso-sure c st p q s) frame))))))
      _ false n n' true true (λ w. (h w, refl)))))))

  p-on-setup : Pair c st {i = true} Any on_setup on_setup
  p-on-setup = p-then (p_write EpRxCtrl 0 _) (p-then (p_write EpTxCtrl 0 _)
      (p-same (p_look (setup_word 0) (setup-same c 0 (omega arith)))
      (λ low. p-same (p_look (setup_word 1) (setup-same c 1 (omega arith))) (λ high.
      p-then (p-modify-ep c Out 0 _ (λ _. refl)) (p-then (p-modify-ep c In 0 _ (λ _. refl))
      (p-then (p-modify c _) (p-then (p_write IntFg 0 _) (p-then (p-wake c Out 0) (p-wake c In 0)))))))))

  p-on-interrupt : PairBy c st true {i = true} Any on_interrupt on_interrupt
  p-on-interrupt = p-reads IntFg 0 (λ v v' e. e) (λ flag.
      p-then (p-when _ (λ _. p-then (p-int-en _) (p-wake-bus c)))
      (p-then (p-when _ (λ _. p-then (p-int-en _) (p-wake-bus c)))
      (p-then (p-when _ (λ _. p_write IntFg 0 _))
      (p-then (p-when _ (λ _. p_write IntFg 0 _))
      (p-before-then (p-when _ (λ _. p-on-transfer))
      (p-when _ (λ _. p-on-setup)) (λ e s. (q_when (setup_act flag) q-setup).on e s)
      (λ e s. (q_when (setup_act flag) q-setup).on e s))))))

  pub p-stamped : PairBy c st true {i = true} Any stamped_interrupt stamped_interrupt
  p-stamped = p-then (p-reads FrameNo 0 (λ v v' e. e) (λ frame. p-modify c _)) p-on-interrupt

-- the whole call
pub p-interrupt : (c : Channel) (st : ℕ) → PairBy c st true {i = true} (SameAnswer c.number) interrupt_code
    interrupt_code
p-interrupt c st = p-staged 2 (p-resultless p-stamped)
