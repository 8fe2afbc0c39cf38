-- What the interrupt does once it has seen a token of the endpoint: its control word is read once, and the record
-- follows the log
use Rattle.std.specs.Prelude.{Bool, false, cond, ◌&&◌, [], ◌∷◌, ◌⊎◌, ◌≡◌, ℕ, ◌+◌, ◌%◌, ◌≤◌}
use Rattle.std.proofs.Math.Bool.{true}
use Rattle.std.proofs.Common.{inl, inr, subst, ◌∙◌, eq-eqb, arith}
use Rattle.std.proofs.Math.Path.{refl, ap, sym}
use Rattle.std.proofs.Math.Dec.{eqb}
use Rattle.regs.specs.declared.Access.TheVariants.{Read, Write}
use Rattle.regs.specs.declared.Dir.{Dir}
use Rattle.regs.specs.declared.Dir.TheVariants.{Out, In}
use Rattle.regs.specs.Registers.{ctrl_of}
use Rattle.regs.specs.ControlWord.{toggle, ack, is_data1}
use Rattle.script.proofs.ToggledLaws.{ack-keeps, ack-acks}
use Rattle.regs.specs.Status.{endpoint}
use Rattle.state.specs.Wakes.{wake_code, listed, woken}
use Rattle.state.specs.Driver.{key, ep_on, with_on}
use Rattle.script.specs.declared.Transfer.{Transfer}
use Rattle.script.specs.Tree as tree
use Rattle.script.specs.Cells.{EpCore, ep-cell}
use Rattle.script.specs.Script.{run, when, waken, ◌>>=◌, ◌>>◌}
use Rattle.script.specs.Statics.{modify_ep, wake, is_on, flag, with_ready, with_armed, with_tog, with_len, completed}
use Rattle.script.specs.Statics.{modify_reg}
use Rattle.script.specs.Every.{same_reg}
use Rattle.script.specs.Handler.{repeated, toggled, out_arm, in_arm}
use Rattle.script.specs.TogglesLaws.{number}
use Rattle.script.specs.Usb20Toggles.{Pid, DATA0, DATA1, same}
use Rattle.script_ops.specs.Rings.{St}
use Rattle.script_ops.specs.Concrete.{concrete}
use Rattle.proof_book.specs.TransferKindsLaws.{act-steady}
use Rattle.proof_usb20.specs.ExemptLaws.{differ}
use Rattle.proof_usb20.specs.Sequence.{Track, off, due, owes, with_phase, own, shown, length_of, judged, acks_as}
use Rattle.proof_usb20.specs.Sequence.{how_often, reads, saw}
use Rattle.proof_usb20.specs.FollowLaws as follow
use Rattle.proof_usb20.specs.Follow.{EpSeen, Fits, view, Follow}
use Rattle.proof_usb20.specs.Watch.{at_end, at_ask}
use Rattle.proof_usb20.specs.FollowLaws.{act-view}
use Rattle.proof_usb20.specs.CalmLaws.{Whole, Idle, CalmKept, Hears, kept_by, hears_same, hears_then, heard}
use Rattle.proof_usb20.specs.CalmLaws.{put_kept, put_hears, q_looks}
use Rattle.proof_usb20.specs.WokenLaws.{woken-room, woken-own}
use Rattle.proof_usb20.specs.ReadingLaws.{Own, own-true, got, changed, fits-2}

pub back : (D : Dir) (E : ℕ) {A : Type 0} {P : Track → A → St → Type 0} {x y : Track} {o : tree.Out St A} → x ≡ y
    → Follow D E P y o → Follow D E P x o
back D E h f = follow.follow-at D E h f

-- ---- the endpoint's toggle

agree : (b : Pid) (v : ℕ) → eqb (number b) (flag (is_data1 v)) ≡ same b (shown v)
agree b v = by b (is_data1 v)
  where
    by : (b : Pid) (c : Bool) → eqb (number b) (flag c) ≡ same b (cond c DATA1 DATA0)
    by DATA0 true = refl
    by DATA0 false = refl
    by DATA1 true = refl
    by DATA1 false = refl

numbers : (v : ℕ) → flag (is_data1 v) ≡ number (shown v)
numbers v = by (is_data1 v)
  where
    by : (c : Bool) → flag c ≡ number (cond c DATA1 DATA0)
    by true = refl
    by false = refl

-- the endpoint's own word
own-word : (D : Dir) {A : Type 0} (x y : A) (b : Bool) → b ≡ true → cond (same_reg (ctrl_of D) (ctrl_of D) && b) x y ≡ x
own-word Out x y b h = rw h refl
own-word In x y b h = rw h refl

own-ack : (D : Dir) {A : Type 0} (x y : A) (b c : Bool) → b ≡ true → c ≡ true
    → cond ((same_reg (ctrl_of D) (ctrl_of D) && b) && c) x y ≡ x
own-ack Out x y b c h g = rw (h, g) refl
own-ack In x y b c h g = rw (h, g) refl

acks : (v : ℕ) → acks_as v (ack v) ≡ true
acks v = rw (ack-acks v, ack-keeps v) (eq-eqb (toggle v) (toggle v) refl)

abbrev pub newly : Dir → ℕ → ℕ → Track → Track
newly D v k w = record {
  bit = shown v;
  through = true;
  len = length_of D k w.len;
  armed = false;
  new = true;
  phase
      = off;
}

module _ (D : Dir) (E : ℕ) where
  -- what `toggled` leaves: the same bit, or another and that recorded
  pub data Told (s : St) (w : Track) (k : ℕ) (y : Track) (b : Bool) (t : St) : Type 0 where
    repeat : b ≡ false → y ≡ with_phase off w → Fits w (view D E t.0) → CalmKept D E true t
        → eqb t.0.globals.stage 2 ≡ true → Hears D E true s t → Told s w k y b t
    new : (v : ℕ) → b ≡ true → y ≡ newly D v k w → (ep_on t.0 D E).tog ≡ number (shown v)
        → (ep_on t.0 D E).len ≡ w.len → is_on (ep_on t.0 D E).armed ≡ false → CalmKept D E true t
        → eqb t.0.globals.stage 2 ≡ true
        → Hears D E true s t → Told s w k y b t

  pub due_idle : (k : ℕ) (w : Track) → Idle D E (with_phase (due k) w)
  due_idle k w r e v p q = by D refl
    where
      by : (d : Dir) → D ≡ d → reads D E (due k) r e v (with_phase (due k) w) ≡ with_phase (due k) w
      by Out g = rw (g, p) refl
      by In g = rw (g, q) refl

  module _ (e k : ℕ) (w : Track) (o : own D E D e ≡ true) where
    read_word_lem : (v : ℕ) → saw D E (with_phase (due k) w) (Read (ctrl_of D) e) v ≡ judged D v k w
    read_word_lem v = own-word D (judged D v k w) (with_phase (due k) w) (own D E D e) o

    read_again : (x v : ℕ) → saw D E (with_phase (owes x) w) (Read (ctrl_of D) e) v ≡ with_phase (owes v) w
    read_again x v = own-word D (with_phase (owes v) w) (with_phase (owes x) w) (own D E D e) o

    acked : (v n : ℕ) → saw D E (with_phase (owes v) w) (Write (ctrl_of D) e (ack v)) n ≡ with_phase off w
    acked v n = own-ack D (with_phase off w) (with_phase (owes v) w) (own D E D e) (acks_as v (ack v)) o (acks v)

    same_bit : (v : ℕ) (b : Bool) → w.armed ≡ b → same w.bit (shown v) ≡ true
        → judged D v k w ≡ with_phase (cond b (owes v) off) w
    same_bit v b g h = rw (h, g) refl

    other_bit : (v : ℕ) → same w.bit (shown v) ≡ false → judged D v k w ≡ newly D v k w
    other_bit v h = rw h refl

    -- a repeat: acknowledged again where a packet is waited for
    again : (s t : St) (v : ℕ) (b : Bool) → is_on (concrete.get (ep-cell D e) t).armed ≡ b
        → view D E t.0 ≡ view D E s.0 → CalmKept D E true t → Hears D E true s t
        → Follow D E (λ y _ u. (y ≡ with_phase off w) × (view D E u.0 ≡ view D E s.0) × CalmKept D E true u
        × Hears D E true s u)
        (with_phase (cond b (owes v) off) w)
        (run {i = true} concrete (when (is_on (concrete.get (ep-cell D e) t).armed) (modify_reg (ctrl_of D) e ack)) t)
    again s t v true h z l f = follow.follow-cond D E (is_on (concrete.get (ep-cell D e) t).armed)
        (λ _. at_ask tt (λ n u _ p. back D E (read_again v n) (at_ask tt (λ x a _ q. back D E (acked n x) (
        let ku : CalmKept D E true u = kept_by D E {s = t} {t = u} p l in
        let ka : CalmKept D E true a = kept_by D E {s = u} {t = a} q ku in
        let hu : Hears D E true t u = hears_same D E {s = t} {t = u} p.2 in
        let ha : Hears D E true u a = hears_same D E {s = u} {t = a} q.2 in
        at_end (refl, q.0 ∙ (p.0 ∙ z), ka, hears_then D E f (hears_then D E hu ha)))))))
        (λ q. differ (sym q ∙ h))
    again s t v false h z l f = follow.follow-cond D E (is_on (concrete.get (ep-cell D e) t).armed)
        (λ q. differ (sym h ∙ q)) (λ _. at_end (refl, z, l, f))

    pub toggles_own : (s : St) → CalmKept D E true s → Fits w (view D E s.0) → eqb s.0.globals.stage 2 ≡ true
        → Follow D E (Told s w k) (with_phase (due k) w) (run concrete (toggled {i = true} D e) s)
    unfolding repeated with_on is_on
    toggles_own s l r two = follow.follow-bind D E (((q_looks D E) 2001).goes (with_phase (due k) w) s
        (due_idle k w, λ _ _ _ _. refl) l)
        (λ y _ a m. back D E m.0 (at_ask tt (λ v t _ p.
        let z : view D E t.0 ≡ view D E s.0 = p.0 ∙ m.1 in
        let q : Own D E D e = own-true D E D e o in
        let kt : CalmKept D E true t = kept_by D E {s = a} {t = t} p m.2 in
        let at : Hears D E true a t = hears_same D E {s = a} {t = t} p.2 in
        let hs : Hears D E true s t = hears_then D E m.3 at in
        let g : repeated (concrete.get (ep-cell D e) t) v
        ≡ same w.bit (shown v) = ap (λ (x : EpCore). eqb x.tog (flag (is_data1 v))) (got D E D e t q)
        ∙ (ap (λ (x : EpSeen). eqb x.tog (flag (is_data1 v))) z
        ∙ (ap (λ n. eqb n (flag (is_data1 v))) r.tog ∙ agree w.bit v)) in
        let st2 : eqb t.0.globals.stage 2 ≡ true = ap (λ (x : EpSeen). eqb x.stage 2) z ∙ two in
        let ar : is_on (concrete.get (ep-cell D e) t).armed ≡ w.armed =
        ap (λ (x : EpCore). is_on x.armed) (got D E D e t q) ∙ (ap (λ (x : EpSeen). is_on x.armed) z ∙ r.armed) in
        back D E (read_word_lem v) (follow.follow-cond D E (repeated (concrete.get (ep-cell D e) t) v)
        (λ h. back D E (same_bit v w.armed refl (sym g ∙ h))
        (follow.follow-bind D E (again s t v w.armed ar z kt hs)
        (λ y _ u x. at_end (repeat refl x.0 (subst (Fits w) (sym x.1) r) x.2
        (ap (λ (x : EpSeen). eqb x.stage 2) x.1 ∙ two) x.3))))
        (λ h. back D E (other_bit v (sym g ∙ h))
        (let f : EpCore → EpCore = λ p. with_armed 0 (with_tog (flag (is_data1 v)) p) in
        let c = changed D E D e f t q kt.whole in
        at_end
        (new v refl refl (ap (λ (x : EpSeen). x.tog) c ∙ numbers v) (ap (λ (x : EpSeen). x.len) (c)
        ∙ (ap (λ (x : EpSeen). x.len) z ∙ r.len))
        (ap (λ (x : EpSeen). is_on x.armed) c) (put_kept D E (ep-cell D e) (f (concrete.get (ep-cell D e) t)) t kt)
        st2
        (hears_then D E hs (put_hears D E (ep-cell D e) (f (concrete.get (ep-cell D e) t)) t)))))))))

-- ---- the arms

-- its task is woken once if a packet was new, else not; or the list is full
abbrev pub Heard : (D : Dir) (E : ℕ) → Track → St → Type 0
Heard D E y t = (64 ≤ t.0.wakes.count) ⊎ (heard D E t ≡ flag y.new)

abbrev pub Done : (D : Dir) (E : ℕ) → {A : Type 0} → Track → A → St → Type 0
Done D E y _ t = (y.phase ≡ off) × Fits y (view D E t.0) × CalmKept D E true t
    × (eqb t.0.globals.stage 2 ≡ true) × Heard D E y t

pub done-as : (D : Dir) (E : ℕ) (y z : Track) (t : St) → y ≡ z → z.phase ≡ off → Fits z (view D E t.0)
    → CalmKept D E true t → eqb t.0.globals.stage 2 ≡ true → Heard D E z t → Done D E {A = Unit {0}} y tt t
done-as D E y z t h p f l two n = (
  ap (λ (x : Track). x.phase) h ∙ p,
  subst (λ (x : Track). Fits x (view D E t.0)) (sym h) f,
  l,
  two,
  subst (λ (x : Track). Heard D E x t) (sym h) n,
)

-- it goes on without a wake-up of its task
pub heard-on : (D : Dir) (E : ℕ) (y : Track) (s t : St) → Hears D E true s t → Heard D E y s → Heard D E y t
heard-on D E y s t h (inl n) = inl (omega (arith, n, h.grows refl))
heard-on D E y s t h (inr n) = inr (h.same refl ∙ n)

code-own : (D : Dir) (E e : ℕ) → Own D E D e → eqb (wake_code D e) (wake_code D E) ≡ true
unfolding wake_code key
code-own Out E e o = eq-eqb (16 + e % 16) (16 + E % 16) (omega (arith, o))
code-own In E e o = eq-eqb (e % 16) (E % 16) (omega (arith, o))

-- its task is woken
module _ (D : Dir) (E e : ℕ) (o : Own D E D e) (u : St) (l : CalmKept D E true u) where
  woken-kept : CalmKept D E true (concrete.act (waken (wake_code D e ∷ [])) u)
  unfolding ep_on
  woken-kept = record {
    whole = (act-steady (waken (wake_code D e ∷ [])) refl u).places ∙ l.whole;
    sorts = λ h. record {
      flags = λ dir e. refl;
      outs = λ e n g. (l.sorts h).outs e n g;
      every
          = λ e n g. (l.sorts h).every e n g;
    };
    plain = λ h. l.plain h;
    room = λ h. woken-room (wake_code D e) u.0.wakes (l.room h);
  }

  woken-heard : (y : Track) → y.new ≡ true → heard D E u ≡ 0
      → Heard D E y (concrete.act (waken (wake_code D e ∷ [])) u)
  woken-heard y n h = by (woken-own (wake_code D E) (wake_code D e) u.0.wakes (l.room refl) (code-own D E e o))
    where
      by : (64 ≤ (woken (wake_code D e) u.0.wakes).count)
          ⊎ (how_often (wake_code D E) (listed (woken (wake_code D e) u.0.wakes)) ≡ heard D E u + 1)
          → Heard D E y (concrete.act (waken (wake_code D e ∷ [])) u)
      by (inl f) = inl f
      by (inr f) = inr (f ∙ (ap (λ k. k + 1) h ∙ sym (ap flag n)))

-- once the toggle has told: of a new packet the record is completed by f, and its task is woken
module _ (D : Dir) (E e k : ℕ) (o : own D E D e ≡ true) (w : Track) (s : St) (quiet : w.new ≡ false)
    (none : heard D E s ≡ 0) where
  finishes : (f : EpCore → EpCore)
      → ((v : ℕ) (t : St) → Whole t → (ep_on t.0 D E).tog ≡ number (shown v) → (ep_on t.0 D E).len ≡ w.len
      → is_on (ep_on t.0 D E).armed ≡ false → eqb t.0.globals.stage 2 ≡ true
      → Fits (newly D v k w) (view D E (concrete.put (ep-cell D e) (f (concrete.get (ep-cell D e) t)) t).0))
      → (y : Track) (b : Bool) (t : St) → Told D E s w k y b t
      → Follow D E (Done D E) y (run {i = true} concrete (when b (do
        modify_ep D e f
        wake D e)) t)
  unfolding with_on is_on
  finishes f fits y b t (repeat h p g l two m) = follow.follow-cond D E b (λ z. differ (sym h ∙ z))
      (λ _. at_end (done-as D E y (with_phase off w) t p refl g l two
      (inr (m.same refl ∙ (none ∙ sym (ap flag quiet))))))
  finishes f fits y b t (new v h p g n a l two m) = follow.follow-cond D E b
      (λ _.
      let q = own-true D E D e o in
      let r = f (concrete.get (ep-cell D e) t) in
      let u = concrete.put (ep-cell D e) r t in
      let i = waken (wake_code D e ∷ []) in
      let ku = put_kept D E (ep-cell D e) r t l in
      at_end (done-as D E y (newly D v k w) (concrete.act i u) p refl
      (subst (Fits (newly D v k w)) (sym (act-view D E i refl u)) (fits v t l.whole g n a two))
      (woken-kept D E e q u ku) two
      (woken-heard D E e q u ku (newly D v k w) refl ((put_hears D E {m = true} (ep-cell D e) r t).same refl
      ∙ (m.same refl ∙ none)))))
      (λ z. differ (sym z ∙ h))

pub arm-out : (E : ℕ) (x : Transfer) (k : ℕ) (w : Track) (s : St) → w.new ≡ false → heard Out E s ≡ 0
    → own Out E Out (endpoint x.st) ≡ true → eqb (endpoint x.st) 0 ≡ false → x.len ≡ k
    → CalmKept Out E true s → Fits w (view Out E s.0) → eqb s.0.globals.stage 2 ≡ true
    → Follow Out E (Done Out E) (with_phase (due k) w) (run concrete (out_arm {i = true} x false) s)
unfolding is_on
arm-out E x k w s quiet none o nz e l r two = follow.follow-cond Out E (eqb (endpoint x.st) 0)
    (λ z. differ (sym nz ∙ z))
    (λ _. follow.follow-bind Out E (toggles_own Out E (endpoint x.st) k w o s l r two)
    (finishes Out E (endpoint x.st) k o w s quiet none (λ p. completed (with_len x.len p)) (λ v t u g n a two.
    subst (Fits (newly Out v k w))
    (sym (changed Out E Out (endpoint x.st) (λ p. completed (with_len x.len p)) t
    (own-true Out E Out (endpoint x.st) o) u))
    (fits-2 Out E two g refl e refl))))

pub arm_in : (E : ℕ) (x : Transfer) (frame k : ℕ) (w : Track) (s : St) → w.new ≡ false → heard In E s ≡ 0
    → own In E In (endpoint x.st) ≡ true → eqb (endpoint x.st) 0 ≡ false → x.len ≡ k → CalmKept In E true s
    → Fits w (view In E s.0) → eqb s.0.globals.stage 2 ≡ true
    → Follow In E (Done In E) (with_phase (due k) w) (run concrete (in_arm {i = true} x false frame) s)
unfolding is_on
arm_in E x frame k w s quiet none o nz e l r two = follow.follow-cond In E (eqb (endpoint x.st) 0)
    (λ z. differ (sym nz ∙ z))
    (λ _. follow.follow-bind In E (toggles_own In E (endpoint x.st) k w o s l r two)
    (finishes In E (endpoint x.st) k o w s quiet none (with_ready 1) (λ v t u g n a two. subst (Fits (newly In v k w))
    (sym (changed In E In (endpoint x.st) (with_ready 1) t (own-true In E In (endpoint x.st) o) u))
    (fits-2 In E two g refl n a))))
