-- The interrupt as a whole: its flags, the transfer that it shows, the setup packet
use Rattle.std.specs.Prelude.{Bool, true, false, not, cond, ◌&&◌, ◌||◌, ◌≡◌, refl, ℕ, zero, suc, eqb}
use Rattle.std.proofs.Common.{ap, sym, ◌∙◌, eqb-true}
use Rattle.regs.specs.declared.Access.TheVariants.{Read}
use Rattle.regs.specs.declared.Reg.TheVariants.{IntFg, IntSt, EpRxCtrl, EpTxCtrl}
use Rattle.regs.specs.declared.Dir.{Dir}
use Rattle.regs.specs.declared.Dir.TheVariants.{Out, In}
use Rattle.regs.specs.Registers.{ctrl_of}
use Rattle.regs.specs.declared.Token.{Token}
use Rattle.regs.specs.declared.Token.TheVariants as tok
use Rattle.regs.specs.ControlWord.{nak}
use Rattle.regs.specs.Flags.{transfer}
use Rattle.regs.specs.MisStatus.{sie_free}
use Rattle.regs.specs.Status.{endpoint, token, out_token, in_token, is_out, is_in, tog_ok}
use Rattle.script.specs.Machine.{Buf}
use Rattle.script.specs.declared.Transfer.{Transfer}
use Rattle.script.specs.Cells.{EpCore, ep-cell}
use Rattle.script.specs.Script.{bind, ret, run}
use Rattle.script.specs.Statics.{is_on}
use Rattle.script.specs.Handler.{looks, nak_non_iso, out_naks, in_naks, retake, retaken, settle, waits_for_iso, waits_for_bulk}
use Rattle.script_ops.specs.Rings.{St}
use Rattle.script_ops.specs.Concrete.{concrete}
use Rattle.proof_usb20.specs.Log.{Log, shows, again, compared, writes, saw, with_rx, with_tx, with_phase}
use Rattle.proof_usb20.specs.Watch.{at_end, at_ask}
use Rattle.proof_usb20.specs.WatchLaws.{watch-bind, watch-more, watch-cond}
use Rattle.proof_usb20.specs.Ep0.{Watch, View, view, Between}
use Rattle.proof_usb20.specs.ExemptLaws.{differ}
use Rattle.proof_usb20.proofs.FittingLaws.{both, negated}
use Rattle.proof_usb20.proofs.QuietLaws.{Plainly, plainly, Any}
use Rattle.proof_usb20.proofs.EventsLaws.{nakked}
use Rattle.proof_usb20.proofs.InterruptLaws.{back, Exactly, Exactly-by, naked}

-- ---- NAK before the release

out-naks : (st : ℕ) (o : EpCore) (t : Token) → token st ≡ t → eqb (endpoint st) 0 ≡ true
    → out_naks st o ≡ (out_token t && tog_ok st)
unfolding out_naks is_out
out-naks st o t e h = rw (e, h) refl

in-naks : (st : ℕ) (n : EpCore) (t : Token) → token st ≡ t → is_on n.iso ≡ false → in_naks st n ≡ in_token t
unfolding in_naks is_in
in-naks st n t e h = rw (e, h) (by (in_token t))
  where
    by : (b : Bool) → b && true ≡ b
    by true = refl
    by false = refl

own-rx : (e v : ℕ) → eqb e 0 ≡ true → (b : Buf) (w : Log)
    → writes b EpRxCtrl e (nak v) (compared EpRxCtrl e v w) ≡ with_rx (nakked v w.rx) w
own-rx e v h b w = rw h refl

own-tx : (e v : ℕ) → eqb e 0 ≡ true → (b : Buf) (w : Log)
    → writes b EpTxCtrl e (nak v) (compared EpTxCtrl e v w) ≡ with_tx (nakked v w.tx) w
own-tx e v h b w = rw h refl

others-ctrl : (d : Dir) (e v n : ℕ) → eqb e 0 ≡ false → (b : Buf) (w : Log)
    → writes b (ctrl_of d) e n (compared (ctrl_of d) e v w) ≡ w
others-ctrl Out e v n h b w = rw h refl
others-ctrl In e v n h b w = rw h refl

module _ (w : Log) (b : Bool) (shown n : ℕ) (s : St) (k : Plainly s) where
  abbrev L : Log → Log
  L y = with_phase (shows b shown n) y

  pub nak-other : (st : ℕ) → eqb (endpoint st) 0 ≡ false
      → Watch Between Any (Exactly (L w) (view s.0)) (L w) (run concrete (nak_non_iso {i = true} st) s)
  nak-other st h =
      watch-cond (out_naks st (concrete.get (ep-cell Out (endpoint st)) s))
      (λ _. at_ask {q = Read EpRxCtrl (endpoint st)} tt (λ v t _ i. at_ask tt (λ _ u _ j. at_end (
        others-ctrl Out (endpoint st) v (nak v) h t.1 (L w),
        j.0 ∙ i.0,
        plainly j.1,
      ))))
      (λ _. watch-cond (in_naks st (concrete.get (ep-cell In (endpoint st)) s))
      (λ _. at_ask {q = Read EpTxCtrl (endpoint st)} tt (λ v t _ i. at_ask tt (λ _ u _ j. at_end (
        others-ctrl In (endpoint st) v (nak v) h t.1 (L w),
        j.0 ∙ i.0,
        plainly j.1,
      ))))
      (λ _. at_end (refl, refl, k)))

  not_iso : (st : ℕ) → eqb (endpoint st) 0 ≡ true → is_on (concrete.get (ep-cell In (endpoint st)) s).iso ≡ false
  not_iso st h = ap (λ (e : ℕ). is_on (concrete.get (ep-cell In e) s).iso) (eqb-true (endpoint st) 0 h) ∙ k.plain In

  abbrev Naks : Token → Bool → {A : Type 0} → Log → A → St → Type 0
  Naks t ok x a u = Exactly-by (λ v. L (naked t false ok v w)) (view s.0) x a u

  unread : {A : Type 0} {a : A} → Exactly-by (λ v. L w) (view s.0) (L w) a s
  unread = record { read = 0; log = refl; shown = refl; plain = k }

  neither : (st : ℕ) → eqb (endpoint st) 0 ≡ true → (t : Token) → token st ≡ t → out_token t ≡ false → in_token t ≡ false
      → Watch Between Any (Exactly-by (λ _. L w) (view s.0)) (L w) (run concrete (nak_non_iso {i = true} st) s)
  neither st h t e a c =
      watch-cond (out_naks st (concrete.get (ep-cell Out (endpoint st)) s))
      (λ q. differ (sym (out-naks st (concrete.get (ep-cell Out (endpoint st)) s) t e h
      ∙ ap (λ (z : Bool). z && tog_ok st) a) ∙ q))
      (λ _. watch-cond (in_naks st (concrete.get (ep-cell In (endpoint st)) s))
      (λ q. differ (sym (in-naks st (concrete.get (ep-cell In (endpoint st)) s) t e (not_iso st h) ∙ c) ∙ q))
      (λ _. at_end unread))

  -- EP0's
  pub nak-own : (st : ℕ) → eqb (endpoint st) 0 ≡ true → (t : Token) → token st ≡ t → (ok : Bool) → tog_ok st ≡ ok
      → Watch Between Any (Naks t ok) (L w) (run concrete (nak_non_iso {i = true} st) s)
  nak-own st h tok.Out e true o =
      watch-cond (out_naks st (concrete.get (ep-cell Out (endpoint st)) s))
      (λ _. at_ask {q = Read EpRxCtrl (endpoint st)} tt (λ v t _ i. at_ask tt (λ _ u _ j. at_end (record {
        read = v;
        log = own-rx (endpoint st) v h t.1 (L w);
        shown = j.0 ∙ i.0;
        plain = plainly j.1;
      }))))
      (λ q. differ (sym q ∙ (out-naks st (concrete.get (ep-cell Out (endpoint st)) s) tok.Out e h ∙ o)))
  nak-own st h tok.Out e false o =
      watch-cond (out_naks st (concrete.get (ep-cell Out (endpoint st)) s))
      (λ q. differ (sym (out-naks st (concrete.get (ep-cell Out (endpoint st)) s) tok.Out e h ∙ o) ∙ q))
      (λ _. watch-cond (in_naks st (concrete.get (ep-cell In (endpoint st)) s))
      (λ q. differ (sym (in-naks st (concrete.get (ep-cell In (endpoint st)) s) tok.Out e (not_iso st h)) ∙ q))
      (λ _. at_end unread))
  nak-own st h tok.In e ok o =
      watch-cond (out_naks st (concrete.get (ep-cell Out (endpoint st)) s))
      (λ q. differ (sym (out-naks st (concrete.get (ep-cell Out (endpoint st)) s) tok.In e h) ∙ q))
      (λ _. watch-cond (in_naks st (concrete.get (ep-cell In (endpoint st)) s))
      (λ _. at_ask {q = Read EpTxCtrl (endpoint st)} tt (λ v t _ i. at_ask tt (λ _ u _ j. at_end (record {
        read = v;
        log = own-tx (endpoint st) v h t.1 (L w);
        shown = j.0 ∙ i.0;
        plain = plainly j.1;
      }))))
      (λ q. differ (sym q ∙ in-naks st (concrete.get (ep-cell In (endpoint st)) s) tok.In e (not_iso st h))))
  nak-own st h tok.Sof e ok o = neither st h tok.Sof e refl refl
  nak-own st h tok.Setup e ok o = neither st h tok.Setup e refl refl

-- ---- the transfer settles

-- what is shown then: another endpoint's, or EP0's, whose word is on NAK where a transaction is complete
pub data Settled (w : Log) (v : View) (l : Log) (x : Transfer) (t : St) : Type 0 where
  others : eqb (endpoint x.st) 0 ≡ false → (b : Bool) (n : ℕ) → l ≡ with_phase (shows b x.st n) w → view t.0 ≡ v
      → Plainly t → Settled w v l x t
  mine : eqb (endpoint x.st) 0 ≡ true → (u : ℕ)
      → l ≡ with_phase (shows x.busy x.st x.len) (naked (token x.st) x.busy (tog_ok x.st) u w)
      → view t.0 ≡ v
      → Plainly t → Settled w v l x t

pub naked-busy : (t : Token) (ok : Bool) (u : ℕ) (w : Log) → naked t true ok u w ≡ w
naked-busy tok.Out ok u w = refl
naked-busy tok.In ok u w = refl
naked-busy tok.Sof ok u w = refl
naked-busy tok.Setup ok u w = refl

looked : (w : Log) (b : Bool) (st m n : ℕ) (s : St) → Plainly s
    → Watch Between Any (Exactly (with_phase (shows b st m) w) (view s.0)) (with_phase (shows b st m) w)
    (run concrete (looks {i = true} n) s)
unfolding looks
looked w b st m zero s k = at_end (refl, refl, k)
looked w b st m (suc n) s k = at_ask tt
    (λ v t _ i. watch-cond (sie_free v) (λ _. at_end (refl, i.0, plainly i.1))
    (λ _. watch-more (looked w b st m n t (plainly i.1)) (λ _ _ _ m. (m.0, m.1 ∙ i.0, m.2))))

-- it is busy still, as it was
stays : (w : Log) (s t : St) (x : Transfer) → x.busy ≡ true → view t.0 ≡ view s.0 → Plainly t
    → Settled w (view s.0) (with_phase (shows true x.st x.len) w) x t
stays w s t x b e k = by (eqb (endpoint x.st) 0) refl
  where
    by : (z : Bool) → eqb (endpoint x.st) 0 ≡ z → Settled w (view s.0) (with_phase (shows true x.st
        x.len) w) x t
    by true h = mine h 0 (rw (b, naked-busy (token x.st) (tog_ok x.st) 0 w) refl) e k
    by false h = others h true x.len refl e k

flag-kept : (st n f : ℕ) (b : Buf) (w : Log) → transfer f ≡ true
    → saw (with_phase (shows true st n) w) (Read IntFg 0) f b ≡ with_phase (shows true st n) w
flag-kept st n f b w q = rw q refl

flag-taken : (st n f : ℕ) (b : Buf) (w : Log) → transfer f ≡ false
    → saw (with_phase (shows true st n) w) (Read IntFg 0) f b ≡ with_phase (again n) w
flag-taken st n f b w q = rw q refl

retakes : (w : Log) (s : St) (x : Transfer) → x.busy ≡ true → Plainly s
    → Watch Between Any (λ l y t. Settled w (view s.0) l y t) (with_phase (shows true x.st x.len) w)
    (run concrete (retake {i = true} x) s)
retakes w s x b k = at_ask tt (λ m t _ i. watch-cond (sie_free m)
    (λ _. at_ask {q = Read IntFg 0} tt (λ f u _ j. watch-cond (transfer f)
    (λ q. back (flag-kept x.st x.len f t.1 w q) (at_end (stays w s u x b (j.0 ∙ i.0) (plainly j.1))))
    (λ q. back (flag-taken x.st x.len f t.1 w q)
    (at_ask {w = with_phase (again x.len) w} {q = Read IntSt 0} tt (λ st o _ l. named st o (l.0 ∙ (j.0
    ∙ i.0)) (plainly l.1))))))
    (λ _. at_end (stays w s t x b i.0 (plainly i.1))))
  where
    named : (st : ℕ) (o : St) → view o.0 ≡ view s.0 → Plainly o
        → Watch Between Any (λ l y t. Settled w (view s.0) l y t)
        (with_phase (shows false st x.len) w) (run {i = true} concrete (bind (nak_non_iso st) (λ _. ret
        (retaken x st))) o)
    named st o e n = by (eqb (endpoint st) 0) refl
      where
        by : (z : Bool) → eqb (endpoint st) 0 ≡ z
            → Watch Between Any (λ l y t. Settled w (view s.0) l y t) (with_phase (shows false st x.len) w)
            (run {i = true} concrete (bind (nak_non_iso st) (λ _. ret (retaken x st))) o)
        by true h = watch-bind (nak-own w false st x.len o n st h (token st) refl (tog_ok st) refl)
            (λ y _ u m. at_end (mine h m.read m.log (m.shown ∙ e) m.plain))
        by false h = watch-bind (nak-other w false st x.len o n st h) (λ y _ u m. at_end (others h false x.len
            m.0 (m.1 ∙ e) m.2))

-- ---- which waits there are

iso-waits : (x : Transfer) (o : EpCore) → waits_for_iso x o ≡ true → (x.busy ≡ true) × (is_on o.iso ≡ true)
unfolding waits_for_iso
iso-waits x o h = let a = both x.busy (is_out x.st && is_on o.iso) h in
    (a.0, (both (is_out x.st) (is_on o.iso) a.1).1)

bulk-waits : (x : Transfer) (n : EpCore) → waits_for_bulk x n ≡ true
    → (x.busy ≡ true) × (eqb (endpoint x.st) 0 ≡ false)
unfolding waits_for_bulk
bulk-waits x n h = let a =
    both x.busy (not (eqb (endpoint x.st) 0) && (is_out x.st || (is_in x.st && not (is_on n.iso)))) h in (
      a.0,
      negated (eqb (endpoint x.st) 0)
          (both (not (eqb (endpoint x.st) 0)) (is_out x.st || (is_in x.st && not (is_on n.iso))) a.1).0,
    )

-- the log then: EP0's free transaction has its NAK already
abbrev pub entry : ℕ → Log → Transfer → Log
entry u w x = with_phase (shows x.busy x.st x.len)
    (cond (eqb (endpoint x.st) 0) (naked (token x.st) x.busy (tog_ok x.st) u w) w)

pub settles : (v : ℕ) (w : Log) (s : St) (x : Transfer) → Plainly s
    → Watch Between Any (λ l y t. Settled w (view s.0) l y t) (entry v w x) (run concrete (settle {i = true} x) s)
settles v w s x k = by (eqb (endpoint x.st) 0) refl x.busy refl
  where
    O : EpCore
    O = concrete.get (ep-cell Out (endpoint x.st)) s

    N : EpCore
    N = concrete.get (ep-cell In (endpoint x.st)) s

    plain_out : eqb (endpoint x.st) 0 ≡ true → is_on O.iso ≡ false
    plain_out h = ap (λ (e : ℕ). is_on (concrete.get (ep-cell Out e) s).iso) (eqb-true (endpoint x.st) 0 h)
        ∙ k.plain Out

    by : (m : Bool) → eqb (endpoint x.st) 0 ≡ m → (b : Bool) → x.busy ≡ b
        → Watch Between Any (λ l y t. Settled w (view s.0) l y t) (entry v w x) (run concrete
        (settle {i = true} x) s)
    -- EP0, complete
    by true h false b =
        watch-cond (waits_for_iso x O) (λ q. differ (sym b ∙ (iso-waits x O q).0))
        (λ _. watch-cond (waits_for_bulk x N) (λ q. differ (sym b ∙ (bulk-waits x N q).0))
        (λ _. watch-cond x.busy (λ q. differ (sym b ∙ q)) (λ _. at_end (mine h v (rw h refl) refl k))))
    -- EP0, busy
    by true h true b =
        watch-cond (waits_for_iso x O) (λ q. differ (sym (plain_out h) ∙ (iso-waits x O q).1))
        (λ _. watch-cond (waits_for_bulk x N) (λ q. differ (sym (bulk-waits x N q).1 ∙ h))
        (λ _. watch-cond x.busy (λ _. back (rw (h, b, naked-busy (token x.st) (tog_ok x.st) v w) refl)
        (retakes w s x b k)) (λ q. differ (sym q ∙ b))))
    -- another
    by false h true b = back (rw (h, b) refl) (
        watch-cond (waits_for_iso x O)
        (λ _. watch-bind (looked w true x.st x.len 2001 s k) (λ y _ t m. back m.0
        (at_ask tt (λ now u _ i. at_ask tt (λ n o _ j. at_end (others h true n refl (j.0 ∙ (i.0
        ∙ m.1)) (plainly j.1)))))))
        (λ _. watch-cond (waits_for_bulk x N)
        (λ _. watch-bind (looked w true x.st x.len 2001 s k)
        (λ y _ t m. back m.0 (at_ask tt (λ n o _ j. at_end (others h true n refl (j.0 ∙ m.1) (plainly j.1))))))
        (λ _. watch-cond x.busy (λ _. retakes w s x b k) (λ q. differ (sym q ∙ b)))))
    by false h false b = back (rw (h, b) refl) (
        watch-cond (waits_for_iso x O) (λ q. differ (sym b ∙ (iso-waits x O q).0))
        (λ _. watch-cond (waits_for_bulk x N) (λ q. differ (sym b ∙ (bulk-waits x N q).0))
        (λ _. watch-cond x.busy (λ q. differ (sym b ∙ q)) (λ _. at_end (others h false x.len refl refl k)))))
