-- The law of enabling and disabling: DATA0 of the endpoint's own, nothing of the others'
use Rattle.std.specs.Prelude.{Bool, not, cond, ◌&&◌, List, [], ◌∷◌, ◌≡◌, ltb, length, ◌⊎◌}
use Rattle.std.proofs.Math.Bool.{true, false, and-false}
use Rattle.std.proofs.Math.Path.{refl, subst}
use Rattle.std.proofs.Common.{ap, sym, ◌∙◌, eqb-true, eq-eqb, inl, inr}
use Prim.Native.Nat.{ℕ, zero, suc, ◌+◌, ◌%◌, ◌≤◌, ◌<◌}
use native.Mathlib.Omega.{arith}
use Rattle.std.proofs.Math.Dec.{eqb}
use Rattle.regs.specs.Enables as enables
use Rattle.regs.specs.Flags.{bus_rst, suspend}
use Rattle.regs.specs.MisStatus.{suspended}
use Rattle.script.proofs.ToggledLaws.{ack-acks}
use Rattle.regs.specs.declared.Dir.{Dir}
use Rattle.regs.specs.declared.Dir.TheVariants.{Out, In}
use Rattle.state.specs.Driver.{ep_on, key}
use Rattle.state.specs.Fresh.{clear_stamps}
use Rattle.state.specs.Kept.{with_ep_type}
use Rattle.state.specs.Wakes.{wake_code}
use Rattle.frame.specs.Advance.{NO_FRAME}
use Rattle.script.specs.Tree as tree
use Rattle.script.specs.Tree.{ends}
use Rattle.script.specs.Cells.{EpCore, ep-cell, globals-cell, paced_cell}
use Rattle.regs.specs.declared.Reg.TheVariants.{EpRxCtrl, EpTxCtrl, EpTLen}
use Rattle.regs.specs.ControlWord.{ACK, NAK, NYET, DATA0, word_of, response, toggle, ack}
use Rattle.script.specs.Script.{Script, run, put, hand, write, place, row, rows, switch, switch_ask, no_wakes, waken}
use Rattle.script.specs.Script.{reset_ring, ◌>>=◌, ◌>>◌}
use Rattle.script.specs.Statics as statics
use Rattle.script.specs.Statics.{is_on, wake, wake_all, with_armed, flag, modify_ep_type}
use Rattle.script.specs.Bus as bus
use Rattle.script.specs.Calls.{Op, slotted, other, SetEnabled, SetStalled, BeginRead, BeginWrite, BusPoll, code}
use Rattle.script.specs.Usb20Toggles.{initial}
use Rattle.script_ops.specs.Rings.{St, slot_step, arm_at, renewed_on, type_step, config_step}
use Rattle.script_ops.specs.Concrete.{concrete}
use Rattle.proof_book.specs.TransferKindsLaws.{act-steady, row-steady}
use Rattle.proof_usb20.specs.Sequence as log
use Rattle.proof_usb20.specs.Sequence.{Track, off, with_phase, own, saw, arms_at, Writing, written, with_word}
use Rattle.proof_usb20.specs.Sequence.{with_sent, Is, unwritten_yet, Restarts, Acks, wrote}
use Rattle.proof_usb20.specs.Sequence.{LeavesWord}
use Rattle.proof_usb20.specs.FollowLaws as follow
use Rattle.proof_usb20.specs.Follow as following
use Rattle.proof_usb20.specs.Follow.{EpSeen, FitsAs, Fits, view, Follow, Ends, Law}
use Rattle.proof_usb20.specs.Watch.{Along, at_end, at_ask}
use Rattle.proof_usb20.specs.WatchLaws.{watch-bind, watch-cond, watch-any}
use Rattle.proof_usb20.specs.ExemptLaws.{by_test, differ}
use Rattle.script.specs.TogglesLaws.{number}
use Rattle.script.specs.Answers.{Answer, Refused, is_allocated, resultless}
use Rattle.proof_usb20.specs.FollowLaws.{act-view}
use Rattle.proof_usb20.specs.CalmLaws.{Whole, Off, Else, WritesTellNothing, CalmKept, Stays, LeavesTrack, loose}
use Rattle.proof_usb20.specs.CalmLaws.{loosely, asked, onward}
use Rattle.proof_usb20.specs.CalmLaws.{with_other, put_globals, put_paced, q_act, q_bind, q_ep, q_got, q_hand}
use Rattle.proof_usb20.specs.CalmLaws.{q_put}
use Rattle.proof_usb20.specs.CalmLaws.{q_resultless, q_ret, q_staged, q_test, q_wake, q_write}
use Rattle.proof_usb20.specs.ReadingLaws as reading
use Rattle.proof_usb20.specs.ReadingLaws.{quiet-law, Own, changed, fits-2, whole-put, own-true, own-false}
use Rattle.proof_usb20.specs.ReadingLaws.{not-and, iso-own}

module _ (D : Dir) (E : ℕ) where
  -- ---- enabled and disabled

  q-types : {P : Track → Type 0} (f : ℕ → ℕ) → LeavesTrack D E false P (modify_ep_type {i = false} f)
  q-types f = (q_bind D E) ((q_got D E) globals-cell)
      (λ g. (q_bind D E) ((q_put D E) (put_globals D E (with_ep_type (f g.ep_type) g)) (q_ret D E))
      (λ _. (q_write D E) (q_ret D E)))

  q-kept : {P : Track → Type 0} (d : Dir) (e : ℕ) (iso on : Bool)
      → LeavesTrack D E false P (bus.kept {i = false} d e iso on)
  q-kept d e iso on = (q_bind D E) (q-types _)
      (λ _. (q_bind D E) ((q_act D E) refl (q_ret D E))
      (λ _. (q_bind D E) ((q_got D E) globals-cell) (λ g. (q_write D E) (q_ret D E))))

  slot-view : (e k : ℕ) → Else D E Out e → (s : St) → view D E (slot_step e k s).1.0 ≡ view D E s.0
  unfolding slot_step renewed_on clear_stamps ep_on
  slot-view e k o s = by (is_on (ep_on s.0 Out e).iso) (eqb k 15)
    where
      by : (b c : Bool)
          → view D E (cond b (arm_at e k (cond c (renewed_on s.0 e) s.0, s.1))
          ((ep_on s.0 Out e).armed_slot, s)).1.0 ≡ view D E s.0
      by true true = with_other D E (renewed_on s.0 e) Out e _ o ∙ with_other D E (clear_stamps s.0 e) Out e _ o
      by true false = with_other D E s.0 Out e _ o
      by false c = refl

  switch-view : (e : ℕ) (on : Bool) (n : ℕ) → Else D E Out e → (s : St)
      → view D E (concrete.row (switch e on) n s).1.0 ≡ view D E s.0
  unfolding config_step type_step ep_on
  switch-view e on zero o s = refl
  switch-view e on (suc zero) o s = refl
  switch-view e on (suc (suc zero)) o s = refl
  switch-view e on (suc (suc (suc k))) o s = slot-view e k o s

  silent : (e : ℕ) (on : Bool) (n x : ℕ) (w : Track) (v : ℕ) → WritesTellNothing D E w
      → saw D E w (switch_ask e on n x) v ≡ w
  silent e on zero x w v h = h _ _ _ v
  silent e on (suc zero) x w v h = h _ _ _ v
  silent e on (suc (suc zero)) x w v h = h _ _ _ v
  silent e on (suc (suc (suc n))) x w v h = refl

  in_row : (e : ℕ) (on : Bool) → Else D E Out e → (n : ℕ) (w : Track) (s : St) → WritesTellNothing D E w
      → CalmKept D E false s
      → Follow D E (λ x _ t. Stays D E false w s x t) w (rows concrete (switch e on) n (λ t. tree.ends (tt {0}) t) s)
  in_row e on m zero w s h k = onward D E w s (concrete.row (switch e on) zero s).1 (switch-view e on zero m s)
      (loosely D E)
      (asked D E w (loose D E ((row-steady (switch e on) zero s).places ∙ k.whole))
      (λ v. silent e on zero (concrete.row (switch e on) zero s).0 w v h)
      (λ _ t l. at_end (refl, refl, l, loosely D E)))
  in_row e on m (suc n) w s h k = onward D E w s (concrete.row (switch e on) (suc n) s).1
      (switch-view e on (suc n) m s) (loosely D E)
      (asked D E w (loose D E ((row-steady (switch e on) (suc n) s).places ∙ k.whole))
      (λ v. silent e on (suc n) (concrete.row (switch e on) (suc n) s).0 w v h) (λ _ t l. in_row e on m n w t h l))

  q-row : {P : Track → Type 0} (e : ℕ) (on : Bool) → Else D E Out e → LeavesTrack D E false P (row (switch e on))
  q-row e on m = record { goes = λ w s z k. in_row e on m 18 w s z.1 k }

  q-enabling : (d : Dir) (e : ℕ) (on : Bool) → Else D E d e → LeavesTrack D E false (Off D E) (bus.set_enabled d e on)
  q-enabling Out e on m = (q_bind D E) ((q_got D E) (ep-cell Out e)) (λ s. (q_bind D E) ((q_test D E) (q-row e on m)
      ((q_bind D E) ((q_act D E) refl (q_ret D E)) (λ _. (q_bind D E)
      ((q_ep D E) Out e (λ p. with_armed (flag on) (statics.renewed p)) m)
      (λ _. (q_bind D E) ((q_hand D E) (q_ret D E)) (λ _. (q_bind D E) ((q_write D E) (q_ret D E))
      (λ _. q-kept Out e false on))))))
      (λ _. (q_wake D E) Out e))
  q-enabling In e on m = (q_bind D E) ((q_got D E) (ep-cell In e))
      (λ s. (q_bind D E) ((q_bind D E) ((q_act D E) refl (q_ret D E))
      (λ _. (q_bind D E) ((q_ep D E) In e statics.renewed m)
      (λ _. (q_bind D E) ((q_put D E) (put_paced D E e NO_FRAME) (q_ret D E))
      (λ _. (q_bind D E) ((q_hand D E) (q_ret D E))
      (λ _. (q_bind D E) ((q_write D E) (q_ret D E)) (λ _. (q_bind D E) ((q_write D E) (q_ret D E))
      (λ _. q-kept In e (is_on s.iso) on)))))))
      (λ _. (q_wake D E) In e))

  -- the rest, once its record is renewed
  abbrev rest_out : ℕ → Bool → Script false Unit
  rest_out e on = do
    hand (place Out e)
    write EpRxCtrl e (word_of (cond on ACK NAK) DATA0 true)
    bus.kept Out e false on

  abbrev rest_in : ℕ → Bool → Bool → Script false Unit
  rest_in e iso on = do
    put (paced_cell e) NO_FRAME
    hand (place In e)
    write EpTLen e 0
    write EpTxCtrl e (word_of (cond (iso && on) NYET NAK) DATA0 (not iso))
    bus.kept In e iso on

  q-rest-out : (e : ℕ) (on : Bool) → LeavesTrack D E false (Off D E) (rest_out e on)
  q-rest-out e on = (q_bind D E) ((q_hand D E) (q_ret D E))
      (λ _. (q_bind D E) ((q_write D E) (q_ret D E)) (λ _. q-kept Out e false on))

  q-rest-in : (e : ℕ) (iso on : Bool) → LeavesTrack D E false (Off D E) (rest_in e iso on)
  q-rest-in e iso on = (q_bind D E) ((q_put D E) (put_paced D E e NO_FRAME) (q_ret D E))
      (λ _. (q_bind D E) ((q_hand D E) (q_ret D E))
      (λ _. (q_bind D E) ((q_write D E) (q_ret D E)) (λ _. (q_bind D E) ((q_write D E) (q_ret D E))
      (λ _. q-kept In e iso on))))

  -- its record then: DATA0, nothing to be taken
  Renews : Bool → Track → {A : Type 0} → Track → A → St → Type 0
  Renews a w y _ t = (y ≡ with_phase off w) × FitsAs initial false w.len a (view D E t.0)

  abbrev renews_by : (d : Dir) (e : ℕ) (f : EpCore → EpCore) (g : Bool) (w : Track) (s : St) → Own D E d e → Whole s
      → Fits w (view D E s.0) → eqb s.0.globals.stage 2 ≡ true
      → ((p : EpCore) → (f p).tog ≡ 0) → ((p : EpCore) → (f p).ready ≡ 0) → ((p : EpCore) → (f p).len ≡ p.len)
      → ((p : EpCore) → is_on (f p).armed ≡ g)
      → FitsAs initial false w.len g (view D E (concrete.put (ep-cell d e) (f (concrete.get (ep-cell d e) s))
      s).0)
  unfolding is_on
  renews_by d e f g w s o k r two a b c m = subst (FitsAs initial false w.len g)
      (sym (changed D E d e f s o k)) (fits-2 D E two (a _) (ap is_on (b _)) (c _ ∙ r.len) (m _))

  flagged : (on : Bool) → is_on (flag on) ≡ on
  unfolding is_on
  flagged true = refl
  flagged false = refl

  enabling : (d : Dir) (e : ℕ) (on : Bool) (w : Track) (s : St) → Own D E d e → Whole s → Fits w (view D E s.0)
      → eqb s.0.globals.stage 2 ≡ true → is_on (ep_on s.0 D E).iso ≡ false
      → Follow D E (Renews (arms_at D E d on) w) (with_phase off w) (run concrete (bus.set_enabled d e on) s)
  unfolding Renews is_on
  enabling Out e on w s o k r two i =
      let f : EpCore → EpCore = λ p. with_armed (flag on) (statics.renewed p) in
      let a = concrete.act (reset_ring Out e) s in
      let t = concrete.put (ep-cell Out e) (f (concrete.get (ep-cell Out e) a)) a in
      let v = act-view D E (reset_ring Out e) refl s in
      let l : Whole a = (act-steady (reset_ring Out e) refl s).places ∙ k in
      let g = renews_by Out e f on w a o l (subst (Fits w) (sym v) r)
      (ap (λ (q : EpSeen). eqb q.stage 2) v ∙ two) (λ _. refl) (λ _. refl) (λ _. refl) (λ _. flagged on) in
      follow.follow-bind D E {P = λ y _ u. Stays D E false (with_phase off w) t y u}
      (follow.follow-cond D E (is_on (concrete.get (ep-cell Out e) s).iso) (λ q. iso-own D E Out e s o i q)
      (λ _. (q-rest-out e on).goes (with_phase off w) t (refl, λ _ _ _ _. refl)
      (loose D E (whole-put D E (ep-cell Out e) (f (concrete.get (ep-cell Out e) a)) a l))))
      (λ y _ u m. at_end {s = concrete.act (waken (wake_code Out e ∷ [])) u} (
        m.0,
        subst (FitsAs initial false w.len on) (sym (act-view D E (waken (wake_code Out e ∷ [])) refl u ∙ m.1)) g,
      ))
  enabling In e on w s o k r two i =
      let a = concrete.act (reset_ring In e) s in
      let t = concrete.put (ep-cell In e) (statics.renewed (concrete.get (ep-cell In e) a)) a in
      let v = act-view D E (reset_ring In e) refl s in
      let l : Whole a = (act-steady (reset_ring In e) refl s).places ∙ k in
      let g = renews_by In e statics.renewed false w a o l (subst (Fits w) (sym v) r)
      (ap (λ (q : EpSeen). eqb q.stage 2) v ∙ two) (λ _. refl) (λ _. refl) (λ _. refl) (λ _. refl) in
      follow.follow-bind D E {P = λ y _ u. Stays D E false (with_phase off w) t y u}
      {f = λ (_ : Unit {0}) (u : St). run {i = false} concrete (wake In e) u}
      ((q-rest-in e (is_on (concrete.get (ep-cell In e) s).iso) on).goes (with_phase off w) t (refl, λ _ _ _ _. refl)
      (loose D E (whole-put D E (ep-cell In e) (statics.renewed (concrete.get (ep-cell In e) a)) a l)))
      (λ y _ u m. at_end (
        m.0,
        subst (FitsAs initial false w.len false)
            (sym (act-view D E (waken (wake_code In e ∷ [])) refl u ∙ m.1)) g,
      ))

  pub law-set-enabled : (d : Dir) (e : ℕ) (on : Bool) → Law D E (slotted (SetEnabled d e on))
  unfolding Renews
  law-set-enabled d e on w s r i z = by (own D E d e) refl
    where
      nothing : Fits (cond (own D E d e && false) (log.renewed D E (arms_at D E d on) (with_phase off w))
          (with_phase off w)) (view D E s.0)
      nothing = rw (and-false (own D E d e)) r

      by : (b : Bool) → own D E d e ≡ b
          → Follow D E (Ends D E (slotted (SetEnabled d e on))) (with_phase off w)
          (run concrete (code (slotted (SetEnabled d e on))) s)
      by false h = quiet-law D E (slotted (SetEnabled d e on)) refl
          (λ a x. not-and D E (own D E d e) (log.ended D E a) (log.renewed D E (arms_at D E d on) x) x h) (λ _ _. tt)
          ((q_staged D E) 2 (reading.q-named D E d e ((q_resultless D E) (q-enabling d e on (own-false D E d e h))))) w
          s r i z
      by true h = follow.follow-cond D E (eqb s.0.globals.stage 2)
          (λ two. follow.follow-cond D E (is_allocated s.0.allocator d e)
          (λ _.
          let a = concrete.act no_wakes s in
          let v = act-view D E no_wakes refl s in
          follow.follow-bind D E {P = Renews (arms_at D E d on) w}
          (follow.follow-bind D E {P = Renews (arms_at D E d on) w}
          (enabling d e on w a (own-true D E d e h) ((act-steady no_wakes refl s).places ∙ z.places)
          (subst (Fits w) (sym v) r) two (ap (λ (q : EpSeen). is_on q.iso) v ∙ i)) (λ y _ t m. at_end m))
          (λ y _ t m. at_end (rw m.0 (rw h m.1), tt)))
          (λ _. at_end (nothing, tt))) (λ _. at_end (nothing, tt))

-- ---- the control word that a call leaves

word-of : (on auto : Bool)
    → (response (word_of (cond on ACK NAK) DATA0 auto) ≡ cond on ACK NAK)
    × (toggle (word_of (cond on ACK NAK) DATA0 auto) ≡ number initial)
unfolding response toggle word_of
word-of true true = (refl, refl)
word-of true false = (refl, refl)
word-of false true = (refl, refl)
word-of false false = (refl, refl)

-- of an endpoint that is not isochronous
word-not-iso : (iso c on auto : Bool) → iso ≡ false → {b : Bool} → on ≡ b
    → Restarts b (written (word_of (cond iso NYET (cond on ACK NAK)) DATA0 auto))
    × Restarts false (written (word_of (cond (iso && c) NYET NAK) DATA0 auto))
word-not-iso true c on auto h k = differ (sym h)
word-not-iso false c on auto h k = (
  subst (λ (b : Bool). Restarts b (written (word_of (cond on ACK NAK) DATA0 auto))) k
      (word-of on auto),
  word-of false auto,
)

pub never : {A : Type 0} (b : Bool) → b && false ≡ true → A
never true h = differ h
never false h = differ h

not_own : {A : Type 0} (b c : Bool) → b ≡ false → b && c ≡ true → A
not_own true c h k = differ (sym h)
not_own false c h k = differ k

module _ (D : Dir) (E : ℕ) where
  abbrev pub Marks : {A : Type 0} → (Writing → A → St → Type 0) → Writing → tree.Out St A → Type 0
  Marks P u o = Along (λ u q x _. wrote D E u q x) (λ _ _ _. Unit {0}) (following.Between D E) (λ _ _. Unit {0}) P u o

  abbrev pub WordLaw : Op → Type 0
  WordLaw o = (w : Track) (s : St) → Fits w (view D E s.0) → is_on (ep_on s.0 D E).iso ≡ false
      → Marks (λ u a _. LeavesWord D E o a u) (unwritten_yet w) (run concrete (code o) s)

  -- a call of which nothing is claimed
  pub leaves-any : (o : Op) → ((a : Answer) (u : Writing) → LeavesWord D E o a u) → WordLaw o
  leaves-any o f w s r i = watch-any (λ _. Unit {0}) (λ _ _ _. tt) (λ _ _ _ _ _. tt) (λ x a _ _. f a x)
      (unwritten_yet w) tt (run concrete (code o) s)

  abbrev Word0 : Bool → {A : Type 0} → Writing → A → St → Type 0
  Word0 b u _ _ = Restarts b u.word

  -- its own word, once written
  own-word : (b c : Bool) (v : ℕ) (u : Writing) → c ≡ true → Restarts b (written v)
      → Restarts b (cond c (with_word v u) u).word
  own-word b true v u h r = r
  own-word b false v u h r = differ h

  enabled-word : (d : Dir) (e : ℕ) (on : Bool) (u : Writing) (s : St) → own D E d e ≡ true
      → is_on (ep_on s.0 D E).iso ≡ false → Marks (Word0 (arms_at D E d on)) u (run concrete (bus.set_enabled d e on) s)
  enabled-word Out e on u s h i = watch-bind {P = Word0 on}
      (watch-cond (is_on (concrete.get (ep-cell Out e) s).iso) (λ q. iso-own D E Out e s (own-true D E Out e h) i q)
      (λ _. at_ask tt (λ _ _ _ _. at_ask tt
      (λ _ _ _ _. at_ask tt (λ _ _ _ _. at_ask tt (λ _ _ _ _. at_end
      (own-word on (own D E Out e) _ u h (word-of on true))))))))
      (λ _ _ _ m. at_end m)
  enabled-word In e on u s h i =
      let j : is_on (concrete.get (ep-cell In e) s).iso ≡ false
      = ap (λ (p : EpCore). is_on p.iso) (reading.got D E In e s (own-true D E In e h)) ∙ i in
      watch-bind {P = Word0 false} {f = λ (_ : Unit {0}) (t : St). run {i = false} concrete (wake In e) t}
      (at_ask tt (λ _ _ _ _. at_ask tt (λ _ _ _ _. at_ask tt
      (λ _ _ _ _. at_ask tt (λ _ _ _ _. at_ask tt (λ _ _ _ _. at_end
      (own-word false (own D E In e) _ _ h (word-not-iso (is_on (concrete.get (ep-cell In e) s).iso) on on _ j
      refl).1)))))))
      (λ _ _ _ m. at_end m)

  pub leaves-enabled : (d : Dir) (e : ℕ) (on : Bool) → WordLaw (slotted (SetEnabled d e on))
  leaves-enabled d e on w s r i = by (own D E d e) refl
    where
      by : (b : Bool) → own D E d e ≡ b
          → Marks (λ u a _. LeavesWord D E (slotted (SetEnabled d e on)) a u) (unwritten_yet w)
          (run concrete (code (slotted (SetEnabled d e on))) s)
      by false h = leaves-any (slotted (SetEnabled d e on)) (λ a u k. not_own (own D E d e) (log.ended D E a) h k) w s r
          i
      by true h = watch-cond (eqb s.0.globals.stage 2) (λ _. watch-cond (is_allocated s.0.allocator d e)
          (λ _.
          let v = act-view D E no_wakes refl s in
          watch-bind {P = Word0 (arms_at D E d on)} (watch-bind {P = Word0 (arms_at D E d on)}
          (enabled-word d e on (unwritten_yet w) (concrete.act no_wakes s) h (ap (λ (q : EpSeen). is_on q.iso) v
          ∙ i))
          (λ _ _ _ m. at_end m)) (λ _ _ _ m. at_end (λ _. m)))
          (λ _. at_end (λ k. never (own D E d e) k))) (λ _. at_end (λ k. never (own D E d e) k))

  -- ---- a cleared halt

  cleared-word : (d : Dir) (e : ℕ) (u : Writing) (s : St) → own D E d e ≡ true → is_on (ep_on s.0 D E).iso ≡ false
      → is_on (ep_on s.0 D E).armed ≡ u.waited
      → Marks (λ x _ _. Restarts (arms_at D E d x.waited) x.word) u
      (run {i = false} concrete (bus.set_stalled d e false) s)
  unfolding bus.restarted_out bus.restarted_in bus.restarted
  cleared-word Out e u s h i k =
      let g = reading.got D E Out e s (own-true D E Out e h) in
      at_ask tt
      (λ _ _ _ _. at_end (kept_word (own D E Out e) _ u h
      (word-not-iso (is_on (concrete.get (ep-cell Out e) s).iso) true (is_on (concrete.get (ep-cell Out e) s).armed) _
      (ap (λ (p : EpCore). is_on p.iso) g ∙ i) (ap (λ (p : EpCore). is_on p.armed) g ∙ k)).0))
    where
      kept_word : (c : Bool) (v : ℕ) (u : Writing) → c ≡ true → Restarts u.waited (written v)
          → Restarts (cond c (with_word v u) u).waited (cond c (with_word v u) u).word
      kept_word true v u h r = r
      kept_word false v u h r = differ h
  cleared-word In e u s h i k =
      let g = reading.got D E In e s (own-true D E In e h) in
      let m = own-word false (own D E In e) _ u h
      (word-not-iso (is_on (concrete.get (ep-cell In e) s).iso) true false _ (ap (λ (p : EpCore). is_on p.iso) g ∙ i)
      refl).0 in
      at_ask tt
      (λ _ _ _ _. watch-bind {P = Word0 false} {f = λ (_ : Unit {0}) (t : St). run {i = false} concrete (wake In e) t}
      (watch-cond (not (is_on (concrete.get (ep-cell In e) s).iso)) (λ _. at_end m) (λ _. at_end m))
      (λ _ _ _ n. at_end n))

  pub leaves-stalled : (d : Dir) (e : ℕ) (on : Bool) → WordLaw (other (SetStalled d e on))
  leaves-stalled d e true w s r i = leaves-any (other (SetStalled d e true)) (λ a u k. never (own D E d e) k) w s r i
  leaves-stalled d e false w s r i = by (own D E d e) refl
    where
      by : (b : Bool) → own D E d e ≡ b
          → Marks (λ u a _. LeavesWord D E (other (SetStalled d e false)) a u) (unwritten_yet w)
          (run concrete (code (other (SetStalled d e false))) s)
      by false h = leaves-any (other (SetStalled d e false)) (λ a u k. not_own (own D E d e) (log.ended D E a) h k) w s
          r i
      by true h = watch-cond (eqb s.0.globals.stage 2)
          (λ _. watch-cond (eqb e 0) (λ _. goes)
          (λ _. watch-cond (is_allocated s.0.allocator d e) (λ _. goes) (λ _. at_end (λ k. never (own D E d e) k))))
          (λ _. at_end (λ k. never (own D E d e) k))
        where
          goes : Marks (λ u a _. LeavesWord D E (other (SetStalled d e false)) a u)
              (unwritten_yet w) (run {i = false} concrete (resultless (bus.set_stalled d e false)) s)
          goes =
              let v = act-view D E no_wakes refl s in
              watch-bind {P = λ x _ _. Restarts (arms_at D E d x.waited) x.word}
              (watch-bind {P = λ x _ _. Restarts (arms_at D E d x.waited) x.word}
              (cleared-word d e (unwritten_yet w) (concrete.act no_wakes s) h (ap (λ (q : EpSeen). is_on q.iso) v
              ∙ i)
              (ap (λ (q : EpSeen). is_on q.armed) v ∙ r.armed)) (λ _ _ _ m. at_end m)) (λ _ _ _ m. at_end (λ _. m))

  -- ---- reads and writes

  acked : (c : Bool) (v : ℕ) (u : Writing) → c ≡ true → Acks (cond c (with_word (ack v) u) u).word
  acked true v u h = ack-acks v
  acked false v u h = differ h

  -- past the rows 4, 5 and 9, and 10 where g holds
  past-rows : {P : Writing → Answer → St → Type 0} {u : Writing} (d : Dir) (e : ℕ) (g : Bool) (s : St)
      {o : tree.Out St Answer}
      → ((n : ℕ) → P u (Refused n) s) → Marks P u o
      → Marks P u (cond (eqb s.0.globals.stage 2) (cond (is_allocated s.0.allocator d e)
      (cond (enables.is_on s.0.globals.ep_config d e) (cond g (ends (Refused 10) s) o) (ends (Refused 9) s))
      (ends (Refused 5) s)) (ends (Refused 4) s))
  past-rows d e g s f x = watch-cond (eqb s.0.globals.stage 2) (λ _. watch-cond (is_allocated s.0.allocator d e)
      (λ _. watch-cond (enables.is_on s.0.globals.ep_config d e) (λ _. watch-cond g (λ _. at_end (f 10)) (λ _. x))
      (λ _. at_end (f 9)))
      (λ _. at_end (f 5))) (λ _. at_end (f 4))

  pub leaves-read : (e n : ℕ) → WordLaw (other (BeginRead e n))
  leaves-read e n w s r i = by_test (own D E Out e)
      (λ h. let o = own-true D E Out e h in
      past-rows Out e (ltb n (concrete.get (ep-cell Out e) s).max_len) s (λ _ k. never (own D E Out e) k)
      (watch-bind {P = λ x _ _. (x.there ≡ false → Acks x.word)}
      (watch-bind {P = λ x _ _. (x.there ≡ false → Acks x.word)}
      (watch-cond (is_on (concrete.get (ep-cell Out e) s).iso) (λ q. iso-own D E Out e s o i q)
      (λ _. watch-cond (is_on (concrete.get (ep-cell Out e) s).ready)
      (λ q. at_end (λ f. differ (sym f ∙ (sym r.ready
      ∙ (sym (ap (λ (p : EpCore). is_on p.ready) (reading.got D E Out e s o)) ∙ q)))))
      (λ _. at_ask tt (λ v _ _ _. at_ask tt (λ _ _ _ _. at_end (λ _. acked (own D E Out e) v (unwritten_yet w) h))))))
      (λ _ _ _ m. at_end m))
      (λ _ _ _ m. at_end (λ _. m))))
      (λ h. leaves-any (other (BeginRead e n)) (λ a u k. not_own (own D E Out e) (log.ended D E a) h k) w s r i)

  is-sent : (c : Bool) (v n : ℕ) (u : Writing) → c ≡ true
      → Is n (cond c (with_word v (cond c (with_sent n u) u)) (cond c (with_sent n u) u)).sent
  is-sent true v n u h = refl
  is-sent false v n u h = differ h

  pub leaves-write : (e : ℕ) (bytes : List ℕ) → WordLaw (slotted (BeginWrite e bytes))
  leaves-write e bytes w s r i = by_test (own D E In e)
      (λ h. past-rows In e (ltb (concrete.get (ep-cell In e) s).max_len (length bytes)) s
      (λ _ k. never (own D E In e) k)
      (watch-bind {P = λ x _ _. Acks x.word × Is (length bytes) x.sent}
      (watch-bind {P = λ x _ _. Acks x.word × Is (length bytes) x.sent}
      (watch-cond (is_on (concrete.get (ep-cell In e) s).iso) (λ q. iso-own D E In e s (own-true D E In e h) i q)
      (λ _. at_ask tt (λ _ _ _ _. at_ask tt (λ v _ _ _. at_ask tt
      (λ _ _ _ _. at_end (
        acked (own D E In e) v _ h,
        is-sent (own D E In e) (ack v) (length bytes)
            (unwritten_yet w) h,
      ))))))
      (λ _ _ _ m. at_end m))
      (λ _ _ _ m. at_end (λ _. m))))
      (λ h. leaves-any (slotted (BeginWrite e bytes)) (λ a u k. not_own (own D E In e) (log.ended D E a) h k) w s r i)

  -- ---- a bus reset

  -- the endpoint is one of the n from e on
  abbrev pub Among : ℕ → ℕ → Type 0
  Among zero e = ⊥
  Among (suc n) e = (own D E D e ≡ true) ⊎ Among n (suc e)

  side : (d : Dir) (e : ℕ) → own D E d e ≡ true → (own D E In e ≡ true) ⊎ (own D E Out e ≡ true)
  side Out e h = inr h
  side In e h = inl h

  naked : (a b : Bool) (v : ℕ) (u : Writing) → Restarts false (written v) → Restarts false u.word
      ⊎ ((a ≡ true) ⊎ (b ≡ true))
      → Restarts false (cond b (with_word v (cond a (with_word v u) u)) (cond a (with_word v u) u)).word
  naked a true v u r h = r
  naked true false v u r h = r
  naked false false v u r (inl m) = m
  naked false false v u r (inr (inl m)) = differ m
  naked false false v u r (inr (inr m)) = differ m

  naks : (n e : ℕ) (u : Writing) (s : St) → Restarts false u.word ⊎ Among n e
      → Marks (Word0 false) u (run {i = false} concrete (bus.nak_all n e) s)
  unfolding bus.nak_all
  naks zero e u s (inl r) = at_end r
  naks zero e u s (inr m) = absurd m
  naks (suc n) e u s m = at_ask tt (λ _ _ _ _. at_ask tt (λ _ t _ _. naks n (suc e) _ t (next m)))
    where
      nak : ℕ
      nak = word_of NAK DATA0 false

      next : Restarts false u.word ⊎ ((own D E D e ≡ true) ⊎ Among n (suc e))
          → Restarts false
          (cond (own D E Out e) (with_word nak (cond (own D E In e) (with_word nak u) u))
          (cond (own D E In e) (with_word nak u) u)).word
          ⊎ Among n (suc e)
      next (inl r) = inl (naked (own D E In e) (own D E Out e) nak u (word-of false false) (inl r))
      next (inr (inl k)) = inl (naked (own D E In e) (own D E Out e) nak u (word-of false false) (inr (side D e k)))
      next (inr (inr k)) = inr k

  same_key : (d : Dir) → key d (E % 16) ≡ key d E
  unfolding key
  same_key Out = omega arith
  same_key In = omega arith

  here_or_on : (n e : ℕ) (t : Bool) → eqb e (E % 16) ≡ t → ((e ≡ E % 16 → ⊥) → Among n (suc e)) → Among (suc n) e
  here_or_on n e true q f = inl (eq-eqb (key D e) (key D E) (ap (key D) (eqb-true e (E % 16) q) ∙ same_key D))
  here_or_on n e false q f = inr (f (λ r. differ (sym q ∙ eq-eqb e (E % 16) r)))

  within : (n e : ℕ) → e ≤ E % 16 → E % 16 < e + n → Among n e
  within zero e a b = absurd (omega (arith, a, b))
  within (suc n) e a b = here_or_on n e (eqb e (E % 16)) refl
      (λ o. within n (suc e) (omega (arith, a, o)) (omega (arith, b)))

  -- as its number is from 1 to 15
  pub among-all : (E % 16 ≡ 0 → ⊥) → Among 15 1
  among-all h = within 15 1 (omega (arith, h)) (omega arith)

  reset-word : (u : Writing) (s : St) → Among 15 1 → Marks (Word0 false) u (run concrete bus.bus_reset s)
  reset-word u s m = at_ask tt (λ _ _ _ _. at_ask tt (λ _ _ _ _. at_ask tt
      (λ _ a _ _. watch-bind {P = Word0 false} (naks 15 1 _ a (inr m)) (λ _ _ b r.
      watch-bind {P = Word0 false} {f = λ (_ : Unit {0}) (t : St). run {i = false} concrete wake_all t}
      (at_ask tt (λ _ _ _ _. at_ask tt (λ _ _ _ _. at_ask tt (λ _ _ _ _. at_ask tt (λ _ _ _ _. at_end r)))))
      (λ _ _ _ q. at_end q)))))

  pub leaves-poll : Among 15 1 → WordLaw (other BusPoll)
  leaves-poll m w s r i = watch-cond (eqb s.0.globals.stage 2)
      (λ _. watch-bind {P = λ u n _. (eqb n 2 ≡ true → Restarts false u.word)}
      (watch-cond (is_on s.0.globals.power)
      (λ _. at_ask tt (λ f a _ _. watch-cond (bus_rst f)
      (λ _. watch-bind {P = Word0 false} (reset-word _ a m) (λ _ _ _ q. at_ask tt (λ _ _ _ _. at_end (λ _. q))))
      (λ _. watch-cond (suspend f)
      (λ _. at_ask tt (λ g _ _ _. at_ask tt (λ _ _ _ _. at_ask tt (λ _ _ _ _. at_end (λ k. not_2 (suspended g) k)))))
      (λ _. at_end (λ k. differ k)))))
      (λ _. at_end (λ k. differ k)))
      (λ _ _ _ q. at_end q))
      (λ _. at_end (λ k. differ k))
    where
      not_2 : {A : Type 0} (b : Bool) → eqb (cond b 3 4) 2 ≡ true → A
      not_2 true k = differ k
      not_2 false k = differ k
