-- The interrupt's law
use Rattle.std.specs.Prelude.{Bool, true, false, not, cond, ◌&&◌, ◌||◌, [], ◌∷◌, ◌++◌, ◌≡◌, refl, ℕ, ◌+◌, ◌*◌, ◌≤◌, eqb, length}
use Rattle.std.proofs.Common.{inr, ap, subst, sym, ◌∙◌, arith, eqb-true}
use Rattle.regs.specs.declared.Access.TheVariants.{Read}
use Rattle.regs.specs.declared.Reg.TheVariants.{FrameNo}
use Rattle.regs.specs.declared.Dir.TheVariants.{Out, In}
use Rattle.regs.specs.declared.Token.{Token}
use Rattle.regs.specs.declared.Token.TheVariants as tok
use Rattle.regs.specs.ControlWord as word
use Rattle.regs.specs.ControlWord.{response, word_of}
use Rattle.regs.specs.Flags.{bus_rst, transfer, suspend, hst_sof, fifo_ov, setup_act}
use Rattle.regs.specs.Status.{endpoint, token, in_token, is_in, is_sof, tog_ok}
use Rattle.regs.specs.IntEn.{with_bus_rst, with_suspend}
use Rattle.state.specs.declared.Globals.{Globals}
use Rattle.state.specs.Wakes.{wake_code, bus_code}
use Rattle.state.specs.Kept.{with_int_en}
use Rattle.frame.specs.Usb20.{index_of}
use Rattle.script.specs.declared.Transfer.{Transfer}
use Rattle.script.specs.Cells.{EpCore, ep-cell, globals-cell}
use Rattle.script.specs.Script.{when, run, waken, no_wakes, setup_word, ◌>>=◌, ◌>>◌}
use Rattle.script.specs.Statics.{is_on, with_ready, with_armed, with_setup, with_entered, modify_int_en, wake_bus}
use Rattle.ring.specs.Copies.{bytes_at}
use Rattle.script_ops.specs.Rings.{word_at}
use Rattle.script.specs.Control.{setup_bytes, word_bytes}
use Rattle.script.specs.Calls.{interrupt}
use Rattle.script.specs.Machine.{Buf}
use Rattle.script.specs.Handler.{entered, nak_non_iso, iso_for, own_in, framed, released, on_transfer, on_setup, on_interrupt}
use Rattle.script_ops.specs.Rings.{St}
use Rattle.script_ops.specs.Concrete.{concrete}
use Rattle.proof_usb20.specs.FramesLaws.{framed_st, frames}
use Rattle.proof_book.specs.TransferKindsLaws.{act-steady}
use Rattle.proof_usb20.specs.Log.{Ep0Word, written_as, anew, Log, off, flagged, shows, with_rx, with_tx, with_phase}
use Rattle.proof_usb20.specs.Log.{with_flags, with_eight, seen, opens, set_up, waits, Octets}
use Rattle.proof_usb20.specs.EightLaws.{eight-bytes}
use Rattle.proof_usb20.specs.Pipe as pipe
use Rattle.proof_usb20.specs.Log as log
use Rattle.proof_usb20.specs.Watch.{at_end, at_ask, Fitted}
use Rattle.proof_usb20.specs.WatchLaws.{watch-bind, watch-more, watch-cond}
use Rattle.proof_usb20.specs.Ep0.{Watch, View, view, Rel, Base, R, Between, Law}
use Rattle.proof_usb20.specs.ExemptLaws.{differ}
use Rattle.proof_usb20.specs.ViewsLaws.{out_is_set, set_in, set_ready, put_globals}
use Rattle.proof_usb20.specs.Ep0Laws.{act-view}
use Rattle.proof_usb20.proofs.StagesLaws.{out_with, in_with, out-view, in-view, out-whole}
use Rattle.proof_usb20.proofs.QuietLaws.{Plainly, plainly, steadily, Any, put_kept}
use Rattle.proof_usb20.proofs.EventsLaws.{aborted, set-up-fits}
use Rattle.proof_usb20.proofs.InterruptLaws.{back, Exactly, Exactly-by, Served, naked, NotIso, served_as, q-served}
use Rattle.proof_usb20.proofs.InterruptLaws.{served-ep0}
use Rattle.proof_usb20.proofs.EntryLaws.{Settled, others, mine, entry, settles, nak-other, nak-own, naked-busy}

-- ---- the NAK before the release

entry_free : (u : ℕ) (w : Log) (x : Transfer) → eqb (endpoint x.st) 0 ≡ true → x.busy ≡ false
    → with_phase (shows x.busy x.st x.len) (naked (token x.st) false (tog_ok x.st) u w) ≡ entry u w x
entry_free u w x h b = rw (h, b) refl

entry-busy : (u : ℕ) (w : Log) (x : Transfer) → eqb (endpoint x.st) 0 ≡ true → x.busy ≡ true
    → with_phase (shows x.busy x.st x.len) w ≡ entry u w x
entry-busy u w x h b = rw (h, b, naked-busy (token x.st) (tog_ok x.st) u w) refl

entry_other : (u : ℕ) (w : Log) (x : Transfer) → eqb (endpoint x.st) 0 ≡ false
    → with_phase (shows x.busy x.st x.len) w ≡ entry u w x
entry_other u w x h = rw h refl

naks-first : (w : Log) (s : St) (x : Transfer) → Plainly s
    → Watch Between Any (Exactly-by (λ u. entry u w x) (view s.0)) (with_phase (shows x.busy x.st x.len) w)
    (run {i = true} concrete (when (not x.busy || (not (is_sof x.st) && not (eqb (endpoint x.st) 0)))
    (nak_non_iso x.st)) s)
naks-first w s x k = by (eqb (endpoint x.st) 0) refl x.busy refl
  where
    C : Bool
    C = not x.busy || (not (is_sof x.st) && not (eqb (endpoint x.st) 0))

    free : x.busy ≡ false → C ≡ true
    free b = rw b refl

    last : (a : Bool) → a && false ≡ false
    last true = refl
    last false = refl

    shut : x.busy ≡ true → eqb (endpoint x.st) 0 ≡ true → C ≡ false
    shut b h = rw (b, h) (last (not (is_sof x.st)))

    by : (m : Bool) → eqb (endpoint x.st) 0 ≡ m → (b : Bool) → x.busy ≡ b
        → Watch Between Any (Exactly-by (λ u. entry u w x) (view s.0)) (with_phase (shows x.busy x.st
        x.len) w)
        (run {i = true} concrete (when C (nak_non_iso x.st)) s)
    by true h false b = watch-cond C
        (λ _. watch-more (nak-own w x.busy x.st x.len s k x.st h (token x.st) refl (tog_ok x.st) refl)
        (λ y _ t m. record {
          read = m.read;
          log = m.log ∙ entry_free
              m.read w x h b;
          shown = m.shown;
          plain = m.plain;
        }))
        (λ q. differ (sym q ∙ free b))
    by true h true b = watch-cond C (λ q. differ (sym (shut b h) ∙ q))
        (λ _. at_end (record { read = 0; log = entry-busy 0 w x h b; shown = refl; plain = k }))
    by false h c b = watch-cond C
        (λ _. watch-more (nak-other w x.busy x.st x.len s k x.st h)
        (λ y _ t m. record { read = 0; log = m.0 ∙ entry_other 0 w x h; shown = m.1; plain = m.2 }))
        (λ _. at_end (record { read = 0; log = entry_other 0 w x h; shown = refl; plain = k }))

-- ---- served

not-iso-for : (t : Token) (o n : EpCore) → is_on o.iso ≡ false → is_on n.iso ≡ false → NotIso t (iso_for t o n)
unfolding iso_for
not-iso-for tok.Out o n a b = a
not-iso-for tok.In o n a b = b
not-iso-for tok.Sof o n a b = tt
not-iso-for tok.Setup o n a b = tt

not_own : (x : Transfer) (t : Token) (iso : Bool) (sof frame : ℕ) → token x.st ≡ t → NotIso t iso
    → own_in x iso sof frame ≡ false
unfolding own_in is_in
not_own x t iso sof frame e i = by t e i
  where
    nothing : (a b : Bool) → a && (b && false) ≡ false
    nothing true true = refl
    nothing true false = refl
    nothing false b = refl

    last : (a : Bool) → a && false ≡ false
    last true = refl
    last false = refl

    by : (t : Token) → token x.st ≡ t → NotIso t iso
        → x.busy && (iso && (in_token (token x.st) && eqb sof frame)) ≡ false
    by tok.In e i = rw i (last x.busy)
    by tok.Out e i = rw e (nothing x.busy iso)
    by tok.Sof e i = rw e (nothing x.busy iso)
    by tok.Setup e i = rw e (nothing x.busy iso)

serves : (w : Log) (v : View) (x : Transfer) (l : Log) (t : St) {su : Bool} → R w v → v.stage ≡ 2 → w.setup_seen ≡ su
    → Settled w v l x t → Watch Between Any (Served su) l (run concrete (frames x) t)
serves w v x l t {su = su} r two e (others h b n m q k) = back m (at_ask {q = Read FrameNo 0} tt (λ frame u _ i.
    let iso = iso_for (token x.st) (concrete.get (ep-cell Out (endpoint x.st)) t)
    (concrete.get (ep-cell In (endpoint x.st)) t) in
    let y = framed x iso u.0.globals.sof_frame frame in
    back (elsewhere b x.st n w h)
    (watch-more
    ((q-served (token y.st) y iso frame (ap (λ (n : ℕ). eqb (endpoint n) 0)
    (framed_st x iso u.0.globals.sof_frame frame)
    ∙ h)).goes (with_phase off w) u refl (plainly i.1))
    (λ z _ o j. (
      subst (λ (z : Log). R z (view o.0)) (sym j.0) (subst (R w) (sym (j.1 ∙ (i.0 ∙ q))) r),
      ap (λ (a : View). a.stage) (j.1 ∙ (i.0 ∙ q)) ∙ two,
      ap (λ (z : Log). z.setup_seen) j.0 ∙ e,
      ap (λ (z : Log). z.phase) j.0,
    )))))
  where
    elsewhere : (b : Bool) (st n : ℕ) (w : Log) → eqb (endpoint st) 0 ≡ false
        → seen b st n (with_phase off w) ≡ with_phase off w
    elsewhere b st n w h = rw h refl
serves w v x l t {su = su} r two e (mine h v' m q k) = back m (at_ask {q = Read FrameNo 0} tt (λ frame u _ i.
    let o = concrete.get (ep-cell Out (endpoint x.st)) t in
    let n = concrete.get (ep-cell In (endpoint x.st)) t in
    let iso = iso_for (token x.st) o n in
    let zero-ep = eqb-true (endpoint x.st) 0 h in
    let not_iso = not-iso-for (token x.st) o n (ap (λ (e : ℕ). is_on (concrete.get (ep-cell Out e) t).iso) zero-ep
    ∙ k.plain Out)
    (ap (λ (e : ℕ). is_on (concrete.get (ep-cell In e) t).iso) zero-ep ∙ k.plain In) in
    let same : framed x iso u.0.globals.sof_frame frame ≡ x = ap (λ (b : Bool). cond b (released x) x)
    (not_own x (token x.st) iso u.0.globals.sof_frame frame refl not_iso) in
    back (here x.busy x.st x.len (naked (token x.st) x.busy (tog_ok x.st) v' w) h)
    (subst (λ (y : Transfer). Watch Between Any (Served su)
    (log.of_token (token x.st) x.busy (tog_ok x.st) x.len (with_phase off (naked (token x.st) x.busy
    (tog_ok x.st) v' w)))
    (run concrete (served_as (token y.st) y iso frame) u)) (sym same)
    (served-ep0 x frame h w u (plainly i.1) (subst (R w) (sym (i.0 ∙ q)) r) (ap (λ (a : View). a.stage) (i.0 ∙ q)
    ∙ two) e (token x.st) iso x.busy (tog_ok x.st) v' refl refl not_iso))))
  where
    here : (b : Bool) (st n : ℕ) (w : Log) → eqb (endpoint st) 0 ≡ true
        → seen b st n (with_phase off w) ≡ log.of_token (token st) b (tog_ok st) n (with_phase off w)
    here b st n w h = rw h refl

-- ---- the transfer

transfers : (w : Log) (s : St) {su : Bool} → R w (view s.0) → (view s.0).stage ≡ 2 → w.setup_seen ≡ su
    → Watch Between Any (Served su) (with_phase flagged w) (run concrete (on_transfer {i = true}) s)
transfers w s r two e = at_ask tt (λ m a _ i. at_ask tt (λ st b _ j. at_ask tt (λ n c _ l.
    let v = l.0 ∙ (j.0 ∙ i.0) in
    watch-bind (naks-first w c (entered m st n) (plainly l.1)) (λ y _ o q. back q.log (at_ask tt (λ _ u _ p.
    watch-bind (settles q.read w u (entered m st n) (plainly p.1))
    (λ z x t k. serves w (view s.0) x z t r two e (subst (λ (y : View). Settled w y z x t) (p.0 ∙ (q.shown
    ∙ v)) k))))))))

-- ---- the setup packet

nak-word : response (word_of word.NAK word.DATA0 false) ≡ word.NAK
unfolding response word_of
nak-word = refl

abbrev nak_word : Ep0Word → Ep0Word
nak_word c = written_as (word_of word.NAK word.DATA0 false) c

abbrev cleared : EpCore → EpCore
cleared p = with_armed 0 (with_ready 0 p)

ready-setup : (x : Log) → x.setup_seen ≡ true → {v y : View} → y ≡ v → Base x.request x.started x.slot v
    → Rel (anew true x.rx) (anew true x.tx) x.len x.got (pipe.after pipe.setup
    x.pipe) pipe.nothing (waits x.eight) v
    → R (cond x.setup_seen (set_up x) x) y
ready-setup x e {v = v} {y = y} h k r = subst (λ (b : Bool). R (cond b (set_up x) x) y) (sym e) (subst (R (set_up x))
    (sym h) (k, inr r))

-- the two words that it takes are the slot's first eight bytes
the-packet : (w : Log) (v : View) (b n : St) → Base w.request w.started w.slot v → v.stage ≡ 2
    → view b.0 ≡ v → Fitted b
    → Octets (bytes_at b.1 w.slot 8)
    → setup_bytes (with_setup 1 (concrete.look (setup_word 0) b) (concrete.look (setup_word 1) b) (concrete.get
    globals-cell n)) ≡ bytes_at b.1 w.slot 8
unfolding setup_bytes
the-packet w v b n k two e f =
    let on : w.started ≡ true = sym k.started ∙ ap (λ (n : ℕ). eqb n 2) two in
    let at : b.0.globals.ep0_buf ≡ w.slot = ap (λ (y : View). y.buffer) e ∙ k.slot on in
    let room : v.room ≡ length b.1 = sym (ap (λ (y : View). y.room) e) ∙ sym f in
    let fits : w.slot + 8 ≤ length b.1 = omega (arith, k.slot on, k.inside on, room) in
    λ o. ap (λ (a : ℕ). word_bytes (word_at b.1 (a + 0 * 4)) ++ word_bytes (word_at b.1 (a + 1 * 4))) at
    ∙ eight-bytes b.1 w.slot fits o

sets-up : (w : Log) (s : St) → R w (view s.0) → (view s.0).stage ≡ 2 → w.setup_seen ≡ true → w.phase ≡ off
    → Watch Between Any (λ x _ t. R (cond x.setup_seen (set_up x) x) (view t.0) × (x.phase ≡ off)) w
    (run concrete (on_setup {i = true}) s)
sets-up w s r two e ph = at_ask tt (λ _ a _ i. at_ask tt (λ _ b _ j. at_ask tt (λ _ c _ l.
    let h = j.1.places in
    let o = out_with cleared b in
    let n = in_with cleared o in
    let g = with_setup 1 (concrete.look (setup_word 0) b) (concrete.look (setup_word 1) b)
    (concrete.get globals-cell n) in
    let p = concrete.put globals-cell g n in
    let low = concrete.look (setup_word 0) b in
    let high = concrete.look (setup_word 1) b in
    let seen-p : view p.0 ≡ set_ready 1 (setup_bytes g)
    (set_in (aborted (view s.0).inn) (out_is_set (aborted (view s.0).out)
    (view s.0)))
    = put_globals g n ∙ ap (set_ready 1 (setup_bytes g)) (in-view cleared o (out-whole cleared b h)
    ∙ ap (λ (y : View). set_in (aborted y.inn) y) (out-view cleared b h
    ∙ ap (λ (y : View). out_is_set (aborted y.out) y) (j.0 ∙ i.0))) in
    let c' = concrete.act (waken (wake_code Out 0 ∷ [])) c in
    at_end (
      (ready-setup (with_eight (bytes_at b.1 w.slot 8) (with_tx (nak_word w.tx) (with_rx (nak_word w.rx) w))) e
          (act-view (waken (wake_code In 0 ∷ [])) refl c' ∙ (act-view (waken (wake_code Out 0 ∷ [])) refl c ∙ (l.0
          ∙ seen-p)))
          (record {
            says = r.0.says;
            started = r.0.started;
            maximum = r.0.maximum;
            slot = r.0.slot;
            inside = r.0.inside;
          })
          (set-up-fits (nak_word w.rx) (nak_word w.tx) w.len w.got w.pipe (view
          s.0) (setup_bytes g) (bytes_at b.1 w.slot 8) (the-packet w (view s.0) b n r.0 two (j.0 ∙ i.0)
          j.3) two nak-word nak-word)),
      ph,
    ))))

-- ---- the flags

masks : (f : ℕ → ℕ) (w : Log) (s : St) → Plainly s
    → Watch Between Any (Exactly w (view s.0)) w (run {i = true} concrete (do
      modify_int_en f
      wake_bus) s)
masks f w s k =
    let h : Globals → Globals = λ g. with_int_en (f g.int_en) g in
    at_ask tt (λ _ t _ i. at_end (
      refl,
      act-view (waken (bus_code ∷ [])) refl t ∙ (i.0 ∙ put_kept h (λ _. refl) s),
      steadily (act-steady (waken (bus_code ∷ [])) refl t) (plainly i.1),
    ))

-- at its end
abbrev Over : {A : Type 0} → Log → A → St → Type 0
Over y a t = R (cond y.setup_seen (set_up y) y) (view t.0) × (y.phase ≡ off)

none : (x : Log) (v : View) → x.setup_seen ≡ false → R x v → R (cond x.setup_seen (set_up x) x) v
none x v h r = rw h r

is-flagged : (f : ℕ) (w : Log) → transfer f ≡ true → with_flags f w ≡ with_phase flagged (with_flags f w)
is-flagged f w h = rw h refl

is-off : (f : ℕ) (w : Log) → transfer f ≡ false → (with_flags f w).phase ≡ off
is-off f w h = rw h refl

on-interrupt : (lent : Buf) (w : Log) (s : St) → R w (view s.0) → (view s.0).stage ≡ 2
    → Watch Between Any Over (opens interrupt lent w) (run concrete (on_interrupt {i = true}) s)
on-interrupt lent w s r two = at_ask tt (λ f b _ j.
    let u = with_flags f (opens interrupt lent w) in
    watch-bind {P = Exactly u (view s.0)}
    (watch-cond (bus_rst f) (λ _. watch-more (masks (λ w. with_bus_rst w false) u b (plainly j.1))
    (λ _ _ _ m. (m.0, m.1 ∙ j.0, m.2)))
    (λ _. at_end (refl, j.0, plainly j.1))) (λ x _ c m. back m.0 (
    watch-bind {P = Exactly u (view s.0)}
    (watch-cond (suspend f) (λ _. watch-more (masks (λ w. with_suspend w false) u c m.2)
    (λ _ _ _ n. (n.0, n.1 ∙ m.1, n.2)))
    (λ _. at_end (refl, m.1, m.2))) (λ x _ d n. back n.0 (
    watch-bind {P = Exactly u (view s.0)}
    (watch-cond (fifo_ov f) (λ _. at_ask tt (λ _ t _ l. at_end (refl, l.0 ∙ n.1, plainly l.1)))
    (λ _. at_end (refl, n.1, n.2)))
    (λ x _ e o. back o.0 (
    watch-bind {P = Exactly u (view s.0)}
    (watch-cond (hst_sof f) (λ _. at_ask tt (λ _ t _ l. at_end (refl, l.0 ∙ o.1, plainly l.1)))
    (λ _. at_end (refl, o.1, o.2)))
    (λ x _ g p. back p.0 (
    watch-bind {P = Served (setup_act f)}
    (watch-cond (transfer f) (λ h. back (is-flagged f (opens interrupt lent w) h)
    (transfers u g (subst (R u) (sym p.1) r) (ap (λ (y : View). y.stage) p.1 ∙ two) refl))
    (λ h. at_end (
      subst (R u) (sym p.1) r,
      ap (λ (y : View). y.stage) p.1
          ∙ two,
      refl,
      is-off f (opens interrupt lent w) h,
    ))) (λ x _ t k.
    watch-cond (setup_act f) (λ h. sets-up x t k.0 k.1 (k.2
    ∙ h) k.3) (λ h. at_end (none x (view t.0) (k.2 ∙ h) k.0, k.3))))))))))))

pub law-interrupt : Law interrupt
law-interrupt w s r z =
    watch-cond (eqb s.0.globals.stage 2)
    (λ q.
    let two : (view s.0).stage ≡ 2 = eqb-true s.0.globals.stage 2 q in
    watch-bind {P = Over} (watch-bind {P = Over} (at_ask tt (λ frame a _ i.
    let v : view (concrete.put globals-cell (with_entered (index_of frame) (concrete.get globals-cell a)) a).0
    ≡ view s.0 = put_kept (with_entered (index_of frame)) (λ _. refl) a ∙ (i.0 ∙ act-view no_wakes refl s) in
    on-interrupt s.1 w (concrete.put globals-cell (with_entered (index_of frame) (concrete.get globals-cell a)) a)
    (subst (R w) (sym v) r) (ap (λ (y : View). y.stage) v ∙ two)))
    (λ y _ o l. at_end l)) (λ y n o l. at_end (l.0, l.1)))
    (λ _. at_end (r, tt))
