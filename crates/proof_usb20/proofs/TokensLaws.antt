-- The interrupt's law: with the transfer flag it reads the status and the frame, and with a token of the endpoint its
-- control word, once
use Rattle.std.specs.Prelude.{Bool, ◌&&◌, ◌||◌, ◌≡◌, ℕ}
use Rattle.std.proofs.Math.Bool.{true, false, not, cond}
use Rattle.std.proofs.Common.{inl, inr, subst, sym, ◌∙◌, arith, eqb-true, eq-eqb}
use Rattle.std.proofs.Math.Path.{refl, ap}
use Rattle.std.proofs.Math.Dec.{eqb}
use Rattle.bits.specs.Walk.{set_bits}
use Rattle.regs.specs.declared.Access.TheVariants.{Read}
use Rattle.regs.specs.declared.Reg.TheVariants.{IntFg, FrameNo}
use Rattle.regs.specs.declared.Dir.{Dir}
use Rattle.regs.specs.declared.Dir.TheVariants.{Out, In}
use Rattle.regs.specs.declared.Token.{Token}
use Rattle.regs.specs.declared.Token.TheVariants as tok
use Rattle.regs.specs.Flags.{bus_rst, transfer, suspend, hst_sof, fifo_ov, setup_act, HST_SOF, FIFO_OV}
use Rattle.regs.specs.IntEn.{with_bus_rst, with_suspend}
use Rattle.regs.specs.MisStatus.{sie_free}
use Rattle.regs.specs.Status.{endpoint, token, is_sof, is_in}
use Rattle.state.specs.Driver.{key, ep_on}
use Rattle.state.specs.Laws.{key_apart}
use Rattle.frame.specs.Usb20.{index_of}
use Rattle.script.specs.declared.Transfer.{Transfer}
use Rattle.script.specs.Cells.{ep-cell, globals-cell}
use Rattle.script.specs.Script.{Script, bind, run, when, get, write, no_wakes, ◌>>=◌, ◌>>◌}
use Rattle.script.specs.Statics.{is_on, flag, every_iso_in, with_entered, modify_int_en, wake_bus}
use Rattle.script.specs.IsoIn.{on_sof, late_walk}
use Rattle.script.specs.IsoOut.{iso_out_check}
use Rattle.script.specs.Handler.{entered, iso_for, own_in, framed, released, dispatch, ep0_moved_on, served, on_transfer}
use Rattle.script.specs.Handler.{on_setup, on_interrupt}
use Rattle.script.specs.Calls.{interrupt, code}
use Rattle.script.specs.Answers.{End}
use Rattle.script.specs.Machine.{ended}
use Rattle.state.specs.Wakes.{wake_code, listed}
use Rattle.state.specs.WakesLaws.{unwoken-room, unwoken-listed, listed-count}
use Rattle.proof_wake_ups.specs.Rooms.{Few}
use Rattle.proof_book.specs.Sorting.{Sorting}
use Rattle.script_ops.specs.Rings.{St}
use Rattle.script_ops.specs.Concrete.{concrete}
use Rattle.proof_usb20.specs.ExemptLaws.{differ}
use Rattle.proof_usb20.proofs.FittingLaws.{both}
use Rattle.proof_usb20.specs.Sequence as log
use Rattle.proof_usb20.specs.Sequence.{Track, off, flagged, shows, due, with_phase, own, mine, token_for, how_often}
use Rattle.proof_usb20.specs.Sequence.{saw}
use Rattle.proof_usb20.specs.FollowLaws as follow
use Rattle.proof_usb20.specs.Follow as following
use Rattle.proof_usb20.specs.Follow.{EpSeen, Fits, view, Follow, EndsFew}
use Rattle.proof_usb20.specs.Watch.{at_end, at_ask}
use Rattle.proof_usb20.specs.FollowLaws.{act-view}
use Rattle.proof_usb20.specs.CalmLaws.{Idle, Off, WritesTellNothing, Else, CalmKept, Stays, LeavesTrack, kept_by}
use Rattle.proof_usb20.specs.CalmLaws.{hears_same, heard}
use Rattle.proof_usb20.specs.CalmLaws.{put_kept, put_hears, only, off-idle, off-hush, put_globals, q_bind, q_ins}
use Rattle.proof_usb20.specs.CalmLaws.{q_wake_bus, q_got, q_int_en, q_ret, q_when, q_write}
use Rattle.proof_usb20.specs.CalmPartsLaws.{q-check, q-dispatch, q-ep0-moved, q-late, q-setup, q-sof}
use Rattle.proof_usb20.proofs.JudgingLaws.{back, Heard, heard-on, Done, arm-out, arm_in, due_idle}
use Rattle.proof_usb20.specs.FramesLaws.{framed_st, frames}
use Rattle.proof_usb20.proofs.SettlingLaws.{Settled, deaf, settles, its_token, not_zero, not_iso, q-nak}

-- ---- the endpoint's token is served

Arms : Dir → ℕ → Type 0
Arms D E = (x : Transfer) (frame k : ℕ) (w : Track) (s : St) → w.new ≡ false → heard D E s ≡ 0
    → token_for D (token x.st) ≡ true → own D E D (endpoint x.st) ≡ true → eqb (endpoint x.st) 0 ≡ false
    → x.len ≡ k → CalmKept D E true s → Fits w (view D E s.0) → eqb s.0.globals.stage 2 ≡ true
    → Follow D E (Done D E) (with_phase (due k) w) (run concrete (dispatch {i = true} (token x.st) x false frame) s)

arms : (D : Dir) (E : ℕ) → Arms D E
unfolding Arms
arms Out E x frame k w s n j t o z l h r two = by (token x.st) t
  where
    by : (t : Token) → token_for Out t ≡ true
        → Follow Out E (Done Out E) (with_phase (due k) w) (run concrete (dispatch {i = true} t x false frame) s)
    by tok.Out t = arm-out E x k w s n j o z l h r two
    by tok.In t = differ t
    by tok.Sof t = differ t
    by tok.Setup t = differ t
arms In E x frame k w s n j t o z l h r two = by (token x.st) t
  where
    by : (t : Token) → token_for In t ≡ true
        → Follow In E (Done In E) (with_phase (due k) w) (run concrete (dispatch {i = true} t x false frame) s)
    by tok.In t = arm_in E x frame k w s n j o z l h r two
    by tok.Out t = differ t
    by tok.Sof t = differ t
    by tok.Setup t = differ t

module _ (D : Dir) (E : ℕ) (z : (d : Dir) → Else D E d 0) where
  -- a part that leaves the endpoint, and its task asleep
  went : (x y : Track) (e u : St) → Done D E {A = Unit {0}} x tt e → Stays D E true x e y u
      → Done D E {A = Unit {0}} y tt u
  went x y e u f g = (
    ap (λ (q : Track). q.phase) g.0 ∙ f.0,
    subst (λ (q : Track). Fits q (view D E u.0)) (sym g.0) (subst (Fits x) (sym g.1) f.1),
    g.2,
    ap (λ (q : EpSeen). eqb q.stage 2) g.1 ∙ f.3,
    subst (λ (q : Track). Heard D E q u) (sym g.0) (heard-on D E x e u g.3 f.4),
  )

  -- what follows a reading of the frame
  abbrev rest : Transfer → Bool → ℕ → Script true Unit
  rest x iso frame = do
    when (not (is_sof x.st)) (iso_out_check x iso)
    when (eqb (endpoint x.st) 0) (ep0_moved_on (token x.st))

  q-rest : (x : Transfer) (iso : Bool) (frame : ℕ) → LeavesTrack D E true (Off D E) (rest x iso frame)
  q-rest x iso frame = (q_bind D E) ((q_when D E) (only D E (off-idle D E) ((q-check D E) x iso)))
      (λ _. (q_when D E) ((q-ep0-moved D E) z (token x.st)))

  abbrev walks : Transfer → ℕ → Script true Unit
  walks x frame = do
    g ← get globals-cell
    when (not (is_sof x.st) && not (eqb g.sof_frame frame)) (on_sof frame)

  q-walks : (x : Transfer) (frame : ℕ) → LeavesTrack D E true (Idle D E) (walks x frame)
  q-walks x frame = (q_bind D E) ((q_got D E) globals-cell) (λ g. (q_when D E) ((q-sof D E) frame))

  abbrev lates : Transfer → ℕ → Script true Unit
  lates x frame = when x.late (do
    g ← get globals-cell
    late_walk frame (set_bits (every_iso_in g)))

  q-lates : (x : Transfer) (frame : ℕ) → LeavesTrack D E true (Idle D E) (lates x frame)
  q-lates x frame = (q_when D E) ((q_ins D E) (λ g o. (q-late D E) frame (set_bits (every_iso_in g)) o))

  -- ours
  ours : (w : Track) (y : Transfer) (k frame : ℕ) (s : St) → w.new ≡ false → heard D E s ≡ 0
      → token_for D (token y.st) ≡ true → own D E D (endpoint y.st) ≡ true → eqb (endpoint y.st) 0 ≡ false
      → y.len ≡ k → y.busy ≡ false → CalmKept D E true s → Fits w (view D E s.0) → eqb s.0.globals.stage 2
      ≡ true
      → Follow D E (Done D E) (with_phase (due k) w) (run concrete (served {i = true} y false frame) s)
  unfolding Arms
  ours w y k frame s q j t o nz l b h r two =
      follow.follow-bind D E {P = λ x _ a. Stays D E true (with_phase (due k) w) s x a}
      (follow.follow-cond D E (not (is_sof y.st) && not (eqb s.0.globals.sof_frame frame))
      (λ _. ((q-sof D E) frame).goes (with_phase (due k) w) s (due_idle D E k w, λ _ _ _ _. refl) h)
      (λ _. at_end (refl, refl, h, hears_same D E {s = s} {t = s} refl))) (λ x _ a m. back D E m.0
      (follow.follow-bind D E {P = λ x _ c. Stays D E true (with_phase (due k) w) a x c}
      ((q-lates y frame).goes (with_phase (due k) w) a (due_idle D E k w, λ _ _ _ _. refl) m.2)
      (λ x _ c n. back D E n.0
      (let v : view D E c.0 ≡ view D E s.0 = n.1 ∙ m.1 in
      follow.follow-bind D E {P = Done D E} (follow.follow-cond D E (not y.busy)
      (λ _. arms D E y frame k w c q (n.3.same refl ∙ (m.3.same refl ∙ j)) t o nz l n.2
      (subst (Fits w) (sym v) r)
      (ap (λ (x : EpSeen). eqb x.stage 2) v ∙ two)) (λ q. differ (sym q ∙ ap not b))) (λ x _ e f.
      follow.follow-more D E ((q-rest y false frame).goes x e (f.0, off-hush D E x f.0) f.2)
      (λ x' _ u g. went x x' e u f g))))))

  -- another's
  q-served : (y : Transfer) (iso : Bool) (frame : ℕ) → (token y.st ≡ tok.Out → Else D E Out (endpoint y.st))
      → (token y.st ≡ tok.In → Else D E In (endpoint y.st))
      → LeavesTrack D E true (Off D E) (served {i = true} y iso frame)
  q-served y iso frame p q = (q_bind D E) ((q_got D E) globals-cell)
      (λ g. (q_bind D E) ((q_when D E) (only D E (off-idle D E) ((q-sof D E) frame)))
      (λ _. (q_bind D E) (only D E (off-idle D E) (q-lates y frame))
      (λ _. (q_bind D E) ((q_when D E) ((q-dispatch D E) z (token y.st) y iso frame p q))
      (λ _. q-rest y iso frame))))

  others : (st : ℕ) → mine D E st ≡ false → (d : Dir) → token_for d (token st) ≡ true → Else D E d (endpoint st)
  others st h d t q = by D refl
    where
      same-dir : (a : Dir) → D ≡ a → (b : Dir) → d ≡ b → D ≡ d
      same-dir Out g Out e = g ∙ sym e
      same-dir In g In e = g ∙ sym e
      same-dir Out g In e = absurd
          (key_apart E (endpoint st)
          (subst (λ (x : Dir). key x E ≡ key In (endpoint st)) g
          (subst (λ (x : Dir). key D E ≡ key x (endpoint st)) e q)))
      same-dir In g Out e = absurd
          (key_apart (endpoint st) E
          (sym (subst (λ (x : Dir). key x E ≡ key Out (endpoint st)) g
          (subst (λ (x : Dir). key D E ≡ key x (endpoint st)) e q))))

      by : (a : Dir) → D ≡ a → ⊥
      by a g =
          let e : D ≡ d = same-dir D refl d refl in
          let u : token_for D (token st) ≡ true = subst (λ (x : Dir). token_for x (token st) ≡ true) (sym e) t in
          let k : own D E D (endpoint st) ≡ true =
          eq-eqb (key D (endpoint st)) (key D E) (sym (subst (λ (x : Dir). key D E ≡ key x (endpoint st)) (sym e) q)) in
          differ (sym h ∙ rw (u, k) refl)

  token-is : (d : Dir) (t u : Token) → t ≡ u → token_for d u ≡ true → token_for d t ≡ true
  token-is d t u e h = ap (token_for d) e ∙ h

  not-framed : (x : Transfer) (iso : Bool) (sof frame : ℕ) → x.busy ≡ false → framed x iso sof frame ≡ x
  unfolding own_in
  not-framed x iso sof frame b = ap (λ (c : Bool). cond (c && (iso && (is_in x.st && eqb sof frame))) (released x) x)
      b

  due-now : (st n : ℕ) (w : Track) (b : Bool) → mine D E st ≡ b → (v : ℕ)
      → saw D E (with_phase (shows st n) w) (Read FrameNo 0) v ≡ with_phase (cond b (due n) off) w
  due-now st n w b h v = rw h refl

  framing : (w : Track) (v : EpSeen) (x : Transfer) (l : Track) (s t : St) → w.new ≡ false → heard D E s ≡ 0 → Fits w v
      → is_on v.iso ≡ false → eqb v.stage 2 ≡ true → Settled D E s w v l x t
      → Follow D E (Done D E) l (run concrete (frames x) t)
  framing w v x l s t quiet none r i two m = back D E m.log (by (mine D E x.st) refl)
    where
      i-here : is_on (ep_on t.0 D E).iso ≡ false
      i-here = ap (λ (q : EpSeen). is_on q.iso) m.view ∙ i

      heard-here : (u : St) → following.Between D E t u → heard D E u ≡ 0
      heard-here u p = (hears_same D E {m = true} {s = t} {t = u} p.2).same refl ∙ (m.hears.same refl ∙ none)

      by : (b : Bool) → mine D E x.st ≡ b
          → Follow D E (Done D E) (with_phase (shows x.st m.len) w) (run concrete (frames x) t)
      by true h = at_ask tt (λ frame u _ p. back D E (due-now x.st m.len w true h frame)
          (let q = m.its h in
          let g : view D E u.0 ≡ v = p.0 ∙ m.view in
          let iso = not_iso D E t i-here z x.st h in
          subst
          (λ (c : Bool). Follow D E (Done D E) (with_phase (due m.len) w)
          (run concrete (served {i = true} (framed x c u.0.globals.sof_frame frame) c frame) u)) (sym iso)
          (subst (λ (y : Transfer). Follow D E (Done D E) (with_phase (due m.len) w)
          (run concrete (served {i = true} y false frame) u))
          (sym (not-framed x false u.0.globals.sof_frame frame q.1))
          (ours w x m.len frame u quiet (heard-here u p) (its_token D E t i-here z x.st h)
          (both (token_for D (token x.st)) (own D E D (endpoint x.st)) h).1 (not_zero D E t i-here z x.st h)
          (sym q.0)
          q.1 (kept_by D E {s = t} {t = u} p m.kept) (subst (Fits w) (sym g) r)
          (ap (λ (a : EpSeen). eqb a.stage 2) g ∙ two)))))
      by false h = at_ask tt (λ frame u _ p. back D E (due-now x.st m.len w false h frame)
          (let g : view D E u.0 ≡ v = p.0 ∙ m.view in
          let iso = iso_for (token x.st) (concrete.get (ep-cell Out (endpoint x.st)) t)
          (concrete.get (ep-cell In (endpoint x.st)) t) in
          let y = framed x iso u.0.globals.sof_frame frame in
          let e : y.st ≡ x.st = framed_st x iso u.0.globals.sof_frame frame in
          let k : mine D E y.st ≡ false = ap (mine D E) e ∙ h in
          follow.follow-more D E
          ((q-served y iso frame (λ a. others y.st k Out (token-is Out (token y.st) tok.Out a refl))
          (λ a. others y.st k In (token-is In (token y.st) tok.In a refl))).goes
          (with_phase off w) u (refl, λ _ _ _ _. refl) (kept_by D E {s = t} {t = u} p m.kept))
          (λ a _ c f. went (with_phase off w) a u c (
            refl,
            subst (Fits w) (sym g) r,
            kept_by D E {s = t} {t = u} p m.kept,
            ap (λ (q : EpSeen). eqb q.stage 2) g ∙ two,
            inr (heard-here u p ∙ sym (ap flag quiet)),
          ) f)))

  -- ---- the transfer

  zero-len : (n : ℕ) → cond (eqb n 0) 0 n ≡ n
  zero-len n = by (eqb n 0) refl
    where
      by : (b : Bool) → eqb n 0 ≡ b → cond b 0 n ≡ n
      by true h = sym (eqb-true n 0 h)
      by false h = refl

  transfers : (w : Track) (s : St) → w.new ≡ false → heard D E s ≡ 0 → CalmKept D E true s → Fits w (view D E s.0)
      → is_on (ep_on s.0 D E).iso ≡ false → eqb s.0.globals.stage 2 ≡ true
      → Follow D E (Done D E) (with_phase flagged w) (run concrete (on_transfer {i = true}) s)
  transfers w s quiet none ks r i two = at_ask tt (λ m a _ p. at_ask tt (λ st b _ q. at_ask tt (λ n c _ f.
      let v : view D E c.0 ≡ view D E s.0 = f.0 ∙ (q.0 ∙ p.0) in
      let kc = kept_by D E {s = b} {t = c} f (kept_by D E {s = a} {t = b} q (kept_by D E {s = s} {t = a} p ks)) in
      let wc : c.0.wakes ≡ s.0.wakes = f.2 ∙ (q.2 ∙ p.2) in
      back D E (ap (λ k. with_phase (shows st k) w) (zero-len n))
      (follow.follow-bind D E {P = λ x _ e. Stays D E true (with_phase (shows st n) w) c x e}
      (follow.follow-cond D E (not (not (sie_free m)) || (not (is_sof st) && not (eqb (endpoint st) 0)))
      (λ _. (q-nak D E {i = true} st).goes (with_phase (shows st n) w) c (deaf D E st n w, λ _ _ _ _. refl) kc)
      (λ _. at_end (refl, refl, kc, hears_same D E {s = c} {t = c} refl))) (λ x _ e g. back D E g.0
      (at_ask tt (λ _ u _ h.
      let k : view D E u.0 ≡ view D E s.0 = h.0 ∙ (g.1 ∙ v) in
      let ku = kept_by D E {s = e} {t = u} h g.2 in
      let nu : heard D E u ≡ 0 = (hears_same D E {m = true} {s = e} {t = u} h.2).same refl
      ∙ (g.3.same refl ∙ ((hears_same D E {m = true} {s = s} {t = c} wc).same refl ∙ none)) in
      follow.follow-bind D E (settles D E z w u (entered m st n) (ap (λ (a : EpSeen). is_on a.iso) k ∙ i) ku)
      (λ l y t d. framing w (view D E u.0) y l u t quiet nu (subst (Fits w) (sym k) r)
      (ap (λ (a : EpSeen). is_on a.iso) k
      ∙ i) (ap (λ (a : EpSeen). eqb a.stage 2) k ∙ two) d))))))))

  -- ---- the interrupt

  q-masks : {P : Track → Type 0} (f : ℕ → ℕ) → LeavesTrack D E true P (bind {i = true} (modify_int_en f) (λ _. wake_bus))
  q-masks f = (q_bind D E) ((q_int_en D E) f) (λ _. (q_wake_bus D E))

  abbrev Any : Track → Type 0
  Any w = Unit {0}

  abbrev flags : ℕ → Script true Unit
  flags flag = do
    when (bus_rst flag) (do
      modify_int_en (λ w. with_bus_rst w false)
      wake_bus)
    when (suspend flag) (do
      modify_int_en (λ w. with_suspend w false)
      wake_bus)
    when (fifo_ov flag) (write IntFg 0 FIFO_OV)
    when (hst_sof flag) (write IntFg 0 HST_SOF)

  flags-hush : (w : Track) (b : Bool) → WritesTellNothing D E (with_phase (cond b flagged off) w)
  flags-hush w true r e v x = refl
  flags-hush w false r e v x = refl

  on-flag : (w : Track) (f : ℕ) (b : Bool) → transfer f ≡ b
      → saw D E (with_phase log.entered w) (Read IntFg 0) f ≡ with_phase (cond b flagged off) w
  on-flag w f b h = rw h refl

  on-interrupt : (w : Track) (s : St) → w.new ≡ false → heard D E s ≡ 0 → CalmKept D E true s
      → Fits w (view D E s.0)
      → is_on (ep_on s.0 D E).iso ≡ false → eqb s.0.globals.stage 2 ≡ true
      → Follow D E (Done D E) (with_phase log.entered w) (run concrete (on_interrupt {i = true}) s)
  on-interrupt w s quiet none ks r i two = at_ask tt (λ f a _ p. by f a p (transfer f) refl)
    where
      by : (f : ℕ) (a : St) → following.Between D E s a → (b : Bool) → transfer f ≡ b
          → Follow D E (Done D E) (saw D E (with_phase log.entered w) (Read IntFg 0) f)
          (run concrete (bind (when {i = true} (bus_rst f) (bind (modify_int_en (λ w. with_bus_rst w false)) (λ _. wake_bus)))
          (λ _. bind (when (suspend f) (bind (modify_int_en (λ w. with_suspend w false)) (λ _. wake_bus)))
          (λ _. bind (when (fifo_ov f) (write IntFg 0 FIFO_OV)) (λ _. bind (when (hst_sof f) (write IntFg 0 HST_SOF))
          (λ _. bind (when (transfer f) on_transfer) (λ _. when (setup_act f) on_setup)))))) a)
      by f a p b h = back D E (on-flag w f b h)
          (let L = with_phase (cond b flagged off) w in
          let hush = flags-hush w b in
          follow.follow-bind D E
          (((q_when D E) {m = true} {P = Any} {i = true} {b = bus_rst f} (q-masks (λ w. with_bus_rst w false))).goes L a
          (tt, hush)
          (kept_by D E {s = s} {t = a} p ks)) (λ x _ a1 m1. back D E m1.0
          (follow.follow-bind D E (((q_when D E) {m = true} {P = Any} {i = true} {b = suspend f}
          (q-masks (λ w. with_suspend w false))).goes L a1 (tt, hush) m1.2) (λ x _ a2 m2. back D E m2.0
          (follow.follow-bind D E (((q_when D E) {m = true} {P = Any} {i = true} {b = fifo_ov f}
          ((q_write D E) {r = IntFg} {e = 0} {v = FIFO_OV} ((q_ret D E) {a = tt {0}}))).goes L a2 (tt, hush)
          m2.2) (λ x _ a3 m3. back D E m3.0
          (follow.follow-bind D E (((q_when D E) {m = true} {P = Any} {i = true} {b = hst_sof f}
          ((q_write D E) {r = IntFg} {e = 0} {v = HST_SOF} ((q_ret D E) {a = tt {0}}))).goes L a3 (tt, hush)
          m3.2) (λ x _ a4 m4. back D E m4.0
          (let v : view D E a4.0 ≡ view D E s.0 = m4.1 ∙ (m3.1 ∙ (m2.1 ∙ (m1.1 ∙ p.0))) in
          let r4 = subst (Fits w) (sym v) r in
          let two4 = ap (λ (q : EpSeen). eqb q.stage 2) v ∙ two in
          let n4 : heard D E a4 ≡ 0 = m4.3.same refl ∙ (m3.3.same refl
          ∙ (m2.3.same refl ∙ (m1.3.same refl ∙ ((hears_same D E {m = true} {s = s} {t = a} p.2).same refl
          ∙ none)))) in
          follow.follow-bind D E {P = Done D E} (moves f a4 n4 m4.2 b h r4 (ap (λ (q : EpSeen). is_on q.iso) v ∙ i)
          two4) (λ x _ c n.
          follow.follow-cond D E (setup_act f)
          (λ _. follow.follow-more D E (((q-setup D E) z {i = true}).goes x c (n.0, off-hush D E x n.0) n.2)
          (λ y _ u g. went x y c u n g))
          (λ _. at_end n)))))))))))
        where
          moves : (f : ℕ) (c : St) → heard D E c ≡ 0 → CalmKept D E true c → (b : Bool) → transfer f ≡ b
              → Fits w (view D E c.0) → is_on (ep_on c.0 D E).iso ≡ false → eqb c.0.globals.stage 2 ≡ true
              → Follow D E (Done D E) (with_phase (cond b flagged off) w)
              (run {i = true} concrete (when (transfer f) on_transfer) c)
          moves f c nc k true h r i two = follow.follow-cond D E (transfer f) (λ _. transfers w c quiet nc k r i two)
              (λ q. differ (sym q ∙ h))
          moves f c nc k false h r i two = follow.follow-cond D E
              (transfer f) (λ q. differ (sym h ∙ q)) (λ _. at_end (refl, r, k, two, inr (nc ∙ sym (ap flag quiet))))

  -- its wake-ups are gathered from none
  gathers : (s : St) → is_on (ep_on s.0 D E).iso ≡ false → Sorting s.0
      → CalmKept D E true (concrete.act no_wakes s)
  unfolding ep_on
  gathers s i k = record {
    whole = k.places;
    sorts = λ _. record {
      flags = λ dir e. refl;
      outs = λ e l h. k.has.outs e l h;
      every
          = λ e l h. k.has.every e l h;
    };
    plain = λ _. i;
    room = λ _. unwoken-room s.0.wakes k.codes;
  }

  heard-none : (s : St) → heard D E (concrete.act no_wakes s) ≡ 0
  heard-none s = ap (how_often (wake_code D E)) (unwoken-listed s.0.wakes)

  -- fewer wake-ups than there is room for, so the list is not full
  ends-few : (y : Track) (t : St) → CalmKept D E true t → Heard D E y t → Few (ended (End 0 (listed t.0.wakes)))
      → how_often (wake_code D E) (listed t.0.wakes) ≡ flag y.new
  ends-few y t k (inl n) f = absurd (omega (arith, n, f, listed-count t.0.wakes (k.room refl)))
  ends-few y t k (inr n) f = n

  abbrev begun : Track → Track
  begun w = record { bit = w.bit; through = w.through; len = w.len; armed = w.armed; new = false; phase = off }

  pub law-interrupt : (w : Track) (s : St) → Fits w (view D E s.0) → is_on (ep_on s.0 D E).iso ≡ false
      → Sorting s.0 → Follow D E (EndsFew D E interrupt) (log.opens D E interrupt w)
      (run concrete (code interrupt) s)
  law-interrupt w s r i k = follow.follow-cond D E (eqb s.0.globals.stage 2)
      (λ two. follow.follow-bind D E {P = Done D E} (follow.follow-bind D E {P = Done D E} (at_ask tt (λ frame a _ p.
      let s0 = concrete.act no_wakes s in
      let g = with_entered (index_of frame) (concrete.get globals-cell a) in
      let v : view D E (concrete.put globals-cell g a).0 ≡ view D E s.0 = put_globals D E g a
      ∙ (p.0 ∙ act-view D E no_wakes refl s) in
      let ka = kept_by D E {s = s0} {t = a} p (gathers s i k) in
      let na : heard D E (concrete.put globals-cell g a) ≡ 0 = (put_hears D E {m = true} globals-cell g a).same refl
      ∙ ((hears_same D E {m = true} {s = s0} {t = a} p.2).same refl ∙ heard-none s) in
      on-interrupt (begun w) (concrete.put globals-cell g a) refl na (put_kept D E globals-cell g a ka)
      (subst (Fits w) (sym v) r) (ap (λ (q : EpSeen). is_on q.iso) v ∙ i) (ap (λ (q : EpSeen). eqb q.stage 2) v
      ∙ two)))
      (λ y _ t m. at_end m)) (λ y _ t m. at_end (m.1, λ few. (m.0, ends-few y t m.2 m.4 few))))
      (λ _. at_end (r, λ _. tt))
