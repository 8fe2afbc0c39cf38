-- The interrupt's law: what its readings show of EP0 is done to EP0's words and records, and nothing else is
use Rattle.std.specs.Prelude.{Bool, true, false, not, cond, ◌&&◌, ◌||◌, [], ◌∷◌, ◌⊎◌, ◌≡◌, refl, ℕ, eqb}
use Rattle.std.proofs.Common.{inl, inr, ap, subst, sym, ◌∙◌}
use Rattle.bits.specs.Walk.{set_bits}
use Rattle.regs.specs.declared.Access.TheVariants.{Read}
use Rattle.regs.specs.declared.Reg.TheVariants.{EpRxCtrl, EpTxCtrl}
use Rattle.regs.specs.declared.Dir.TheVariants.{Out, In}
use Rattle.regs.specs.declared.Dir.{Dir}
use Rattle.regs.specs.Registers.{ctrl_of}
use Rattle.regs.specs.declared.Token.{Token}
use Rattle.regs.specs.declared.Token.TheVariants as tok
use Rattle.regs.specs.ControlWord.{flip, nakflip}
use Rattle.regs.specs.Status.{endpoint, is_sof, tog_ok}
use Rattle.script.specs.declared.Transfer.{Transfer}
use Rattle.script.specs.Machine.{Buf}
use Rattle.script.specs.Tree as tree
use Rattle.script.specs.Cells.{EpCore, ep-cell, globals-cell}
use Rattle.script.specs.Script.{Script, bind, test, get, when, run, waken, ◌>>=◌, ◌>>◌}
use Rattle.script.specs.Statics.{is_on, wake, with_ready, with_armed, with_len, modify_ep, modify_reg, every_iso_in}
use Rattle.script.specs.Statics as statics
use Rattle.script.specs.IsoIn.{on_sof, late_walk}
use Rattle.script.specs.IsoOut.{iso_out_check}
use Rattle.script.specs.Handler.{sent, dispatch, moved_on, ep0_moved_on}
use Rattle.state.specs.Wakes.{wake_code}
use Rattle.script_ops.specs.Rings.{St}
use Rattle.script_ops.specs.Concrete.{concrete}
use Rattle.proof_book.specs.TransferKindsLaws.{put-steady, act-steady}
use Rattle.proof_usb20.specs.Pipe as pipe
use Rattle.proof_usb20.specs.Pipe.{packet}
use Rattle.proof_usb20.specs.Log.{Ep0Word, written_as, word_read_as, Log, off, reads, compared, writes, with_rx}
use Rattle.proof_usb20.specs.Log.{with_tx}
use Rattle.proof_usb20.specs.Log.{with_got, with_phase, happens, of_token}
use Rattle.proof_usb20.specs.Watch.{at_end, at_ask}
use Rattle.proof_usb20.specs.WatchLaws.{watch-bind, watch-more, watch-cond}
use Rattle.proof_usb20.specs.Ep0.{Watch, Rec, View, view, Base, R, Between}
use Rattle.proof_usb20.specs.ExemptLaws.{differ}
use Rattle.proof_usb20.specs.ViewsLaws.{rec, out_is_set, set_in}
use Rattle.proof_usb20.specs.Ep0Laws.{act-view}
use Rattle.proof_usb20.proofs.StagesLaws.{in_with, Whole, out-view, in-view, in_whole}
use Rattle.proof_usb20.proofs.QuietLaws.{Plainly, plainly, steadily, Any, LeavesLog, q_ret, q_bind, q_if, q-every}
use Rattle.proof_usb20.proofs.PartsLaws.{q_got, q_when, q-sof, q-late, q-check, q-sof-arm, q-dispatch}
use Rattle.proof_usb20.proofs.EventsLaws.{completed, nakked, flipped, nakflipped, packet-out, packet-in, token-out}
use Rattle.proof_usb20.proofs.EventsLaws.{token_in}

-- ---- the events, of a log that may be exempt; u, v, y: what was read of the words

-- the token OUT alone
pub r-token-out : (w : Log) (x : View) (y : ℕ) (m : Bool) → is_on x.inn.armed ≡ m → R w x
    → R (with_tx (cond m (nakflipped y w.tx) w.tx) (happens (pipe.token Out) w)) (cond m (set_in (completed
    x.inn.len) x) x)
r-token-out w x y m h (k, inl e) = (kept m k, inl (rw e refl))
  where
    kept : (m : Bool) → Base w.request w.started w.slot x
        → Base w.request w.started w.slot (cond m (set_in (completed x.inn.len) x) x)
    kept true k = record {
      says = k.says;
      started = k.started;
      maximum = k.maximum;
      slot = k.slot;
      inside
          = k.inside;
    }
    kept false k = k
r-token-out w x y m h (k, inr r) = (kept m k, inr (token-out y m h r))
  where
    kept : (m : Bool) → Base w.request w.started w.slot x
        → Base w.request w.started w.slot (cond m (set_in (completed x.inn.len) x) x)
    kept true k = record {
      says = k.says;
      started = k.started;
      maximum = k.maximum;
      slot = k.slot;
      inside
          = k.inside;
    }
    kept false k = k

-- the token IN alone
pub r-token-in : (w : Log) (x : View) (y : ℕ) (m : Bool) → is_on x.out.armed ≡ m → R w x
    → R (with_rx (cond m (nakflipped y w.rx) w.rx) (happens (pipe.token In) w)) (cond m (out_is_set (completed
    x.out.len) x) x)
r-token-in w x y m h (k, inl e) = (kept m k, inl (rw e refl))
  where
    kept : (m : Bool) → Base w.request w.started w.slot x
        → Base w.request w.started w.slot (cond m (out_is_set (completed x.out.len) x) x)
    kept true k = record {
      says = k.says;
      started = k.started;
      maximum = k.maximum;
      slot = k.slot;
      inside
          = k.inside;
    }
    kept false k = k
r-token-in w x y m h (k, inr r) = (kept m k, inr (token_in y m h r))
  where
    kept : (m : Bool) → Base w.request w.started w.slot x
        → Base w.request w.started w.slot (cond m (out_is_set (completed x.out.len) x) x)
    kept true k = record {
      says = k.says;
      started = k.started;
      maximum = k.maximum;
      slot = k.slot;
      inside
          = k.inside;
    }
    kept false k = k

-- a packet OUT of n bytes, put on NAK before it is seen and flipped after it
abbrev out_seen : ℕ → ℕ → Log → Log
out_seen u n w = with_got n (happens (packet Out) (with_rx (nakked u w.rx) w))

r-packet-out : (w : Log) (x : View) (u v n : ℕ) → R w x
    → let z = out_seen u n w in R (with_rx (flipped v z.rx) z) (out_is_set (completed n) x)
r-packet-out w x u v n (k, f) = (
  record { says = k.says; started = k.started; maximum = k.maximum; slot = k.slot; inside = k.inside },
  packet-out w.exempt w.request u v n k.says f,
)

pub r-out : (w : Log) (x : View) (u v n y : ℕ) (m : Bool) → is_on x.inn.armed ≡ m → R w x
    → let z = happens (pipe.token Out) (out_seen u n w) in
    let z' = with_rx (flipped v z.rx) z in
    R (with_tx (cond m (nakflipped y z'.tx) z'.tx) z')
    (cond m (set_in (completed x.inn.len) (out_is_set (completed n) x)) (out_is_set (completed n) x))
r-out w x u v n y m h r = let z = out_seen u n w in
    r-token-out (with_rx (flipped v z.rx) z) (out_is_set (completed n) x) y m h (r-packet-out w x u v n r)

-- a packet IN
abbrev in_seen : ℕ → Log → Log
in_seen u w = happens (packet In) (with_tx (nakked u w.tx) w)

r-packet-in : (w : Log) (x : View) (u v : ℕ) → R w x
    → let z = in_seen u w in R (with_tx (flipped v z.tx) z) (set_in (completed x.inn.len) x)
r-packet-in w x u v (k, f) = (
  record { says = k.says; started = k.started; maximum = k.maximum; slot = k.slot; inside = k.inside },
  packet-in w.exempt w.request u v x.inn.len k.says f,
)

pub r-in : (w : Log) (x : View) (u v y : ℕ) (m : Bool) → is_on x.out.armed ≡ m → R w x
    → let z = happens (pipe.token In) (in_seen u w) in
    let z' = with_tx (flipped v z.tx) z in
    R (with_rx (cond m (nakflipped y z'.rx) z'.rx) z')
    (cond m (out_is_set (completed x.out.len) (set_in (completed x.inn.len) x)) (set_in (completed x.inn.len) x))
r-in w x u v y m h r = let z = in_seen u w in
    r-token-in (with_tx (flipped v z.tx) z) (set_in (completed x.inn.len) x) y m h (r-packet-in w x u v r)

-- ---- scripts

-- a log that is another's
pub back : {A : Type 0} {P : Log → A → St → Type 0} {u w : Log} {o : tree.Out St A} → u ≡ w → Watch Between Any P w o
    → Watch Between Any P u o
back {P = P} {o = o} e x = subst (λ (y : Log). Watch Between Any P y o) (sym e) x

-- a script's run, so that the script shows
pub record Runs {i : Bool} {A : Type 0} (P : Log → A → St → Type 0) (p : Script i A) (w : Log) (s : St) : Type 0 where
  pub ok : Watch Between Any P w (run concrete p s)

pub then-quiet : {i : Bool} {A B : Type 0} {p : Script i A} {f : A → Script i B} {P : Log → B → St → Type 0} {w : Log}
    {s : St}
    → w.phase ≡ off → Plainly s → LeavesLog p
    → ((a : A) (t : St) → view t.0 ≡ view s.0 → Plainly t → Runs P (f a) w t) → Runs P (bind p f) w s
then-quiet {w = w} {s = s} z k q g = record {
  ok = watch-bind (q.goes w s z k)
      (λ x a t l. back l.0 (g a t l.1 l.2).ok);
}

pub then : {i : Bool} {A B : Type 0} {p : Script i A} {f : A → Script i B} {Q : Log → A → St → Type 0}
    {P : Log → B → St → Type 0} {w : Log} {s : St}
    → Runs Q p w s
    → ((x : Log) (a : A) (t : St) → Q x a t → Runs P (f a) x t) → Runs P (bind p f) w s
then q g = record { ok = watch-bind q.ok (λ x a t l. (g x a t l).ok) }

pub back_to : {i : Bool} {A : Type 0} {P : Log → A → St → Type 0} {p : Script i A} {u w : Log} {s : St} → u ≡ w
    → Runs P p w s → Runs P p u s
back_to e x = record { ok = back e x.ok }

pub if-so : {i : Bool} {A : Type 0} {P : Log → A → St → Type 0} (b : Bool) {p q : Script i A} {w : Log} {s : St}
    → b ≡ true → Runs P p w s → Runs P (test b p q) w s
if-so b h x = record { ok = watch-cond b (λ _. x.ok) (λ q. differ (sym q ∙ h)) }

-- exactly this log, this view
abbrev pub Exactly : Log → View → {A : Type 0} → Log → A → St → Type 0
Exactly w v x a t = (x ≡ w) × (view t.0 ≡ v) × Plainly t

-- a log with a number that was read, this view
pub record Exactly-by (L : ℕ → Log) (v : View) {A : Type 0} (x : Log) (a : A) (t : St) : Type 0 where
  pub read : ℕ
  pub log : x ≡ L read
  pub shown : view t.0 ≡ v
  pub plain : Plainly t

flags : (p : EpCore) (n : ℕ) → (p.ready ≡ 1) × (p.armed ≡ 0) × (p.len ≡ n)
    → ◌≡◌ {A = Rec} (record { ready = p.ready; armed = p.armed; len = p.len }) (completed n)
flags p n q = rw (q.0, q.1, q.2) refl

-- ---- EP0's direction d: its control word in the log, its record in the view

abbrev ctrl : Dir → Log → Ep0Word
ctrl Out w = w.rx
ctrl In w = w.tx

abbrev with_ctrl : Dir → Ep0Word → Log → Log
with_ctrl Out v w = with_rx v w
with_ctrl In v w = with_tx v w

abbrev set_rec : Dir → Rec → View → View
set_rec Out r y = out_is_set r y
set_rec In r y = set_in r y

abbrev rec_of : Dir → View → Rec
rec_of Out y = y.out
rec_of In y = y.inn

-- read, and written as f of it
changed : (d : Dir) (f : ℕ → ℕ) (v : ℕ) (b : Buf) (w : Log) → w.phase ≡ off
    → writes b (ctrl_of d) 0 (f v) (reads w.phase (ctrl_of d) v (compared (ctrl_of d) 0 v w))
    ≡ with_ctrl d (written_as (f v) (word_read_as v (ctrl d w))) w
changed Out f v b w z = ap (λ p. writes b EpRxCtrl 0 (f v) (reads p EpRxCtrl v (with_rx (word_read_as v w.rx) w))) z
changed In f v b w z = ap (λ p. writes b EpTxCtrl 0 (f v) (reads p EpTxCtrl v (with_tx (word_read_as v w.tx) w))) z

same-ctrl : (d : Dir) (w : Log) → w ≡ with_ctrl d (ctrl d w) w
same-ctrl Out w = refl
same-ctrl In w = refl

armed-as : (d : Dir) (s : St) → (concrete.get (ep-cell d 0) s).armed ≡ (rec_of d (view s.0)).armed
armed-as Out s = refl
armed-as In s = refl

len-as : (d : Dir) (s : St) → (concrete.get (ep-cell d 0) s).len ≡ (rec_of d (view s.0)).len
len-as Out s = refl
len-as In s = refl

abbrev ep_with : Dir → (EpCore → EpCore) → St → St
ep_with d f s = concrete.put (ep-cell d 0) (f (concrete.get (ep-cell d 0) s)) s

rec-view : (d : Dir) (f : EpCore → EpCore) (s : St) → Whole s
    → view (ep_with d f s).0 ≡ set_rec d (rec (f (concrete.get (ep-cell d 0) s))) (view s.0)
rec-view Out f s h = out-view f s h
rec-view In f s h = in-view f s h

-- its word is read, changed and written; then its record completed, of the length that g leaves
served-word : (d : Dir) (f : ℕ → ℕ) (g : EpCore → EpCore) (len : View → ℕ) (w : Log) (s : St)
    → ((p : EpCore) → ((g p).ready ≡ 1) × ((g p).armed ≡ 0)) → ((t : St)
    → (g (concrete.get (ep-cell d 0) t)).len ≡ len (view t.0))
    → w.phase ≡ off
    → Watch Between Any (Exactly-by (λ v. with_ctrl d (written_as (f v) (word_read_as v (ctrl d w))) w)
    (set_rec d (completed (len (view s.0))) (view s.0))) w (run concrete (do
      modify_reg {i = true} (ctrl_of d) 0 f
      modify_ep d 0 g
      wake d 0) s)
served-word d f g len w s c n z = at_ask {q = Read (ctrl_of d) 0} tt (λ v t _ k. at_ask tt (λ _ u _ l.
    let o = ep_with d g u in
    let p = g (concrete.get (ep-cell d 0) u) in
    at_end (record {
      read = v;
      log = changed d f v t.1 w z;
      shown = act-view (waken (wake_code d 0 ∷ [])) refl o ∙ (rec-view d g u l.1.places
          ∙ (ap (λ (r : Rec). set_rec d r (view u.0)) (flags p (len (view u.0)) (
            (c (concrete.get
                (ep-cell d 0) u)).0,
            (c (concrete.get (ep-cell d 0) u)).1,
            n u,
          ))
          ∙ ap (λ (y : View). set_rec d (completed (len y)) y) (l.0 ∙ k.0)));
      plain = steadily (act-steady (waken (wake_code d 0 ∷ [])) refl o)
          (steadily (put-steady (ep-cell d 0) p u) (plainly l.1));
    })))

-- a packet IN
sent-in : (w : Log) (s : St) → w.phase ≡ off
    → Watch Between Any (Exactly-by (λ v. with_tx (flipped v w.tx) w) (set_in (completed (view s.0).inn.len)
    (view s.0))) w (run concrete (do
      modify_reg {i = true} EpTxCtrl 0 flip
      modify_ep In 0 (with_armed 0)
      sent 0) s)
sent-in w s z = at_ask {q = Read EpTxCtrl 0} tt (λ v t _ k. at_ask tt (λ _ u _ l.
    let h = l.1.places in
    let m = in_with (with_armed 0) u in
    let o = in_with (with_ready 1) m in
    at_end (record {
      read = v;
      log = changed In flip v t.1 w z;
      shown = act-view (waken (wake_code In 0 ∷ [])) refl o ∙ (in-view (with_ready 1) m (in_whole (with_armed 0) u h)
          ∙ (ap (λ (y : View). set_in (record { ready = 1; armed = y.inn.armed; len = y.inn.len }) y) (in-view
          (with_armed 0) u h)
          ∙ ap (λ (y : View). set_in (completed y.inn.len) y) (l.0 ∙ k.0)));
      plain = steadily (act-steady (waken (wake_code In 0 ∷ [])) refl o)
          (steadily (put-steady (ep-cell In 0) (with_ready 1 (concrete.get (ep-cell In 0) m)) m)
          (steadily (put-steady (ep-cell In 0) (with_armed 0 (concrete.get (ep-cell In 0) u)) u) (plainly l.1)));
    })))

-- a hidden stage
moved_on_lem : (d : Dir) (w : Log) (s : St) → w.phase ≡ off → Plainly s → (m : Bool) → is_on (rec_of d (view s.0)).armed
    ≡ m
    → Watch Between Any (Exactly-by (λ v. with_ctrl d (cond m (nakflipped v (ctrl d w)) (ctrl d w)) w)
    (cond m (set_rec d (completed (rec_of d (view s.0)).len) (view s.0)) (view s.0))) w
    (run concrete (moved_on {i = true} d) s)
moved_on_lem d w s z k true h = watch-cond (is_on (concrete.get (ep-cell d 0) s).armed)
    (λ _. served-word d nakflip statics.completed (λ y. (rec_of d y).len) w s (λ _. (refl, refl)) (λ t. len-as d t) z)
    (λ q. differ (sym q ∙ (ap is_on (armed-as d s) ∙ h)))
moved_on_lem d w s z k false h = watch-cond (is_on (concrete.get (ep-cell d 0) s).armed)
    (λ q. differ (sym (ap is_on (armed-as d s) ∙ h) ∙ q))
    (λ _. at_end (record { read = 0; log = same-ctrl d w; shown = refl; plain = k }))

-- ---- `served`, its token apart

abbrev pub served_as : Token → Transfer → Bool → ℕ → Script true Unit
served_as tk x iso frame = do
  g ← get globals-cell
  when (not (is_sof x.st) && not (eqb g.sof_frame frame)) (on_sof frame)
  when x.late do
    g ← get globals-cell
    late_walk frame (set_bits (every_iso_in g))
  when (not x.busy) (dispatch tk x iso frame)
  when (not (is_sof x.st)) (iso_out_check x iso)
  when (eqb (endpoint x.st) 0) (ep0_moved_on tk)

-- of another endpoint
pub q-served : (tk : Token) (x : Transfer) (iso : Bool) (frame : ℕ) → eqb (endpoint x.st) 0 ≡ false
    → LeavesLog (served_as tk x iso frame)
q-served tk x iso frame h = q_bind (q_got globals-cell)
    (λ g. q_bind (q_when (q-sof frame))
    (λ _. q_bind (q_when (q-every (λ g m. q-late frame (set_bits (every_iso_in g)) m)))
    (λ _. q_bind (q_when (q-dispatch tk x iso frame h))
    (λ _. q_bind (q_when (q-check x iso)) (λ _. q_if (eqb (endpoint x.st) 0) (λ z. differ (sym h ∙ z))
    (λ _. q_ret))))))

-- what is known at its end
abbrev pub Served : Bool → {A : Type 0} → Log → A → St → Type 0
Served su x a t = R x (view t.0) × ((view t.0).stage ≡ 2) × (x.setup_seen ≡ su) × (x.phase ≡ off)

-- of EP0: what comes before the token's own part, that part, the checks, the token's sign of a hidden stage
module _ (x : Transfer) (frame : ℕ) (mine : eqb (endpoint x.st) 0 ≡ true) (w : Log) (z : w.phase ≡ off) (s : St)
    (k : Plainly s) {su : Bool} where
  framing : (tk : Token) (iso : Bool) (L : ℕ → Log) (v : View) → ((n : ℕ) → (L n).phase ≡ off)
      → ((t : St) → view t.0 ≡ view s.0 → Plainly t → Runs {i = true} (Exactly-by L v) (when (not x.busy)
      (dispatch tk x iso frame)) w t)
      → ((n : ℕ) (t : St) → view t.0 ≡ v → Plainly t → Runs {i = true} (Served su) (ep0_moved_on tk) (L n) t)
      → Runs (Served su) (served_as tk x iso frame) w s
  framing tk iso L v z' own sign =
      then-quiet z k (q_got globals-cell) (λ g t e l.
      then-quiet z l (q_when (q-sof frame)) (λ _ t' e' l'.
      then-quiet z l' (q_when (q-every (λ g m. q-late frame (set_bits (every_iso_in g)) m))) (λ _ t'' e'' l''.
      then (own t'' (e'' ∙ (e' ∙ e)) l'') (λ y _ u m. back_to m.log
      (then-quiet (z' m.read) m.plain (q_when (q-check x iso)) (λ _ u' d n.
      if-so (eqb (endpoint x.st) 0) mine (sign m.read u' (d ∙ m.shown) n)))))))

pub made : {i : Bool} {A : Type 0} {P : Log → A → St → Type 0} {p : Script i A} {w : Log} {s : St}
    → Watch Between Any P w (run concrete p s) → Runs P p w s
made x = record { ok = x }

conclude : {su : Bool} (y w : Log) (u : St) (v : View) → y ≡ w → view u.0 ≡ v → R w v → v.stage ≡ 2
    → w.setup_seen ≡ su → w.phase ≡ off → Served su y (tt {0}) u
conclude {su = su} y w u v e h r t f p = (
  subst (λ (q : Log). R q (view u.0)) (sym e) (subst (R w) (sym h) r),
  ap (λ (q : View). q.stage) h ∙ t,
  ap (λ (q : Log). q.setup_seen) e ∙ f,
  ap (λ (q : Log). q.phase) e ∙ p,
)

same-stage : (m : Bool) (x y : View) → x.stage ≡ 2 → y.stage ≡ 2 → (cond m x y).stage ≡ 2
same-stage true x y p q = p
same-stage false x y p q = q

-- EP0's free transaction is put on NAK before the release; u: what was read
abbrev pub naked : Token → Bool → Bool → ℕ → Log → Log
naked tok.Out busy ok u w = cond (not busy && ok) (with_rx (nakked u w.rx) w) w
naked tok.In busy ok u w = cond busy w (with_tx (nakked u w.tx) w)
naked tok.Sof busy ok u w = w
naked tok.Setup busy ok u w = w

abbrev pub NotIso : Token → Bool → Type 0
NotIso tok.Out iso = iso ≡ false
NotIso tok.In iso = iso ≡ false
NotIso tok.Sof iso = Unit {0}
NotIso tok.Setup iso = Unit {0}

module _ (x : Transfer) (frame : ℕ) (mine : eqb (endpoint x.st) 0 ≡ true) (w : Log) (s : St) (k : Plainly s)
    (r : R w (view s.0)) (two : (view s.0).stage ≡ 2) {su : Bool} (seen-su : w.setup_seen ≡ su) where
  abbrev armed_in : Bool
  armed_in = is_on (view s.0).inn.armed

  abbrev armed_out : Bool
  armed_out = is_on (view s.0).out.armed

  out-taken : (n : ℕ) → x.busy ≡ false → tog_ok x.st ≡ true
      → Watch Between Any (Served su) (of_token tok.Out false true x.len (with_phase off (with_rx (nakked n
      w.rx) w)))
      (run concrete (served_as tok.Out x false frame) s)
  out-taken n b ok =
      let u = of_token tok.Out false true x.len (with_phase off (with_rx (nakked n w.rx) w)) in
      (framing x frame mine u refl s k tok.Out false (λ v. with_rx (flipped v u.rx) u) (out_is_set (completed x.len)
      (view s.0)) (λ _. refl)
      (λ t e l. made (watch-cond (not x.busy) (λ _. watch-cond (eqb (endpoint x.st) 0)
      (λ _. watch-cond (tog_ok x.st)
      (λ _. watch-more (served-word Out flip (λ p. statics.completed (with_len x.len p)) (λ _. x.len) u t (λ _.
      (refl, refl)) (λ _. refl) refl)
      (λ _ _ _ m. record {
        read = m.read;
        log = m.log;
        shown = m.shown
            ∙ ap (out_is_set (completed x.len)) e;
        plain = m.plain;
      }))
      (λ q. differ (sym q ∙ ok))) (λ q. differ (sym q ∙ mine))) (λ q. differ (sym q ∙ ap not b))))
      (λ v t e l. made (watch-more (moved_on_lem In (with_rx (flipped v u.rx) u) t refl l armed_in (ap (λ
      (y : View). is_on y.inn.armed) e))
      (λ y _ o m. conclude y _ o _ m.log (m.shown ∙ ap (λ (q : View). cond armed_in (set_in (completed
      q.inn.len) q) q) e)
      (r-out w (view s.0) n v x.len m.read armed_in refl r)
      (same-stage armed_in _ _ two two) seen-su refl)))).ok

  -- the token OUT alone: a repeat, or a transaction that is not complete
  out-token : (busy ok : Bool) → not busy && ok ≡ false → x.busy ≡ busy → tog_ok x.st ≡ ok
      → Watch Between Any (Served su) (happens (pipe.token Out) (with_phase off w))
      (run concrete (served_as tok.Out x false frame) s)
  out-token busy ok none b o =
      let u = happens (pipe.token Out) (with_phase off w) in
      (framing x frame mine u refl s k tok.Out false (λ _. u) (view s.0) (λ _. refl)
      (λ t e l. made (watch-cond (not x.busy) (λ f. watch-cond (eqb (endpoint x.st) 0)
      (λ _. watch-cond (tog_ok x.st) (λ g. differ (sym none
      ∙ both (sym b) (sym o) f g)) (λ _. at_end (unchanged t e l)))
      (λ q. differ (sym q ∙ mine))) (λ _. at_end (unchanged t e l))))
      (λ _ t e l. made (watch-more (moved_on_lem In u t refl l armed_in (ap (λ (y : View). is_on y.inn.armed) e))
      (λ y _ o m. conclude y _ o _ m.log (m.shown ∙ ap (λ (q : View). cond armed_in (set_in (completed
      q.inn.len) q) q) e)
      (r-token-out w (view s.0) m.read armed_in refl r) (same-stage armed_in _ _ two two) seen-su refl)))).ok
    where
      both : busy ≡ x.busy → ok ≡ tog_ok x.st → not x.busy ≡ true → tog_ok x.st ≡ true → not busy && ok ≡ true
      both p q f g = rw (p, q, f, g) refl

      unchanged : {A : Type 0} {u : Log} {a : A} (t : St) → view t.0 ≡ view s.0 → Plainly t
          → Exactly-by (λ _. u) (view s.0) u a t
      unchanged t e l = record { read = 0; log = refl; shown = e; plain = l }

  in-sent : (n : ℕ) → x.busy ≡ false
      → Watch Between Any (Served su) (of_token tok.In false true x.len (with_phase off (with_tx (nakked n w.tx) w)))
      (run concrete (served_as tok.In x false frame) s)
  in-sent n b =
      let u = of_token tok.In false true x.len (with_phase off (with_tx (nakked n w.tx) w)) in
      (framing x frame mine u refl s k tok.In false (λ v. with_tx (flipped v u.tx) u)
      (set_in (completed (view s.0).inn.len) (view s.0)) (λ _. refl)
      (λ t e l. made (watch-cond (not x.busy) (λ _. watch-cond (eqb (endpoint x.st) 0) (λ _. watch-more
      (sent-in u t refl)
      (λ _ _ _ m. record {
        read = m.read;
        log = m.log;
        shown = m.shown ∙ ap (λ (y : View). set_in (completed y.inn.len) y) e;
        plain = m.plain;
      })) (λ q. differ (sym q ∙ mine))) (λ q. differ (sym q ∙ ap not b))))
      (λ v t e l. made (watch-more (moved_on_lem Out (with_tx (flipped v u.tx) u) t refl l armed_out (ap (λ
      (y : View). is_on y.out.armed) e))
      (λ y _ o m. conclude y _ o _ m.log (m.shown ∙ ap (λ (q : View). cond armed_out (out_is_set (completed
      q.out.len) q) q) e)
      (r-in w (view s.0) n v m.read armed_out refl r) (same-stage armed_out _ _ two two) seen-su refl)))).ok

  in-token : x.busy ≡ true
      → Watch Between Any (Served su) (happens (pipe.token In) (with_phase off w))
      (run concrete (served_as tok.In x false frame) s)
  in-token b =
      let u = happens (pipe.token In) (with_phase off w) in
      (framing x frame mine u refl s k tok.In false (λ _. u) (view s.0) (λ _. refl)
      (λ t e l. made (watch-cond (not x.busy) (λ f. differ (ap not (sym b) ∙ f))
      (λ _. at_end (record { read = 0; log = refl; shown = e; plain = l }))))
      (λ _ t e l. made (watch-more (moved_on_lem Out u t refl l armed_out (ap (λ (y : View). is_on y.out.armed) e))
      (λ y _ o m. conclude y _ o _ m.log (m.shown ∙ ap (λ (q : View). cond armed_out (out_is_set (completed
      q.out.len) q) q) e)
      (r-token-in w (view s.0) m.read armed_out refl r) (same-stage armed_out _ _ two two) seen-su refl)))).ok

  plain-token : (tk : Token) (iso : Bool) → LeavesLog {i = true} (dispatch tk x iso frame)
      → LeavesLog {i = true} (ep0_moved_on tk)
      → Watch Between Any (Served su) (with_phase off w) (run concrete (served_as tk x iso frame) s)
  plain-token tk iso q p =
      (framing x frame mine (with_phase off w) refl s k tk iso (λ _. with_phase off w) (view s.0) (λ _. refl)
      (λ t e l. made (watch-more ((q_when {b = not x.busy} q).goes (with_phase off w) t refl l)
      (λ _ _ _ m. record { read = 0; log = m.0; shown = m.1 ∙ e; plain = m.2 })))
      (λ _ t e l. made (watch-more (p.goes (with_phase off w) t refl l)
      (λ y _ o m. conclude y (with_phase off w) o (view s.0) m.0 (m.1 ∙ e) r two seen-su refl)))).ok

  pub served-ep0 : (tk : Token) (iso busy ok : Bool) (n : ℕ) → x.busy ≡ busy → tog_ok x.st ≡ ok → NotIso tk iso
      → Watch Between Any (Served su) (of_token tk busy ok x.len (with_phase off (naked tk busy ok n w)))
      (run concrete (served_as tk x iso frame) s)
  served-ep0 tok.Out false false true n b o i = out-taken n b o
  served-ep0 tok.Out false false false n b o i = out-token false false refl b o
  served-ep0 tok.Out false true ok n b o i = out-token true ok refl b o
  served-ep0 tok.Out true busy ok n b o i = differ (sym i)
  served-ep0 tok.In false false ok n b o i = in-sent n b
  served-ep0 tok.In false true ok n b o i = in-token b
  served-ep0 tok.In true busy ok n b o i = differ (sym i)
  served-ep0 tok.Sof iso busy ok n b o i = plain-token tok.Sof iso (q-sof-arm frame) q_ret
  served-ep0 tok.Setup iso busy ok n b o i = plain-token tok.Setup iso q_ret q_ret
