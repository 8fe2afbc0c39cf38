-- Scripts that leave EP0 alone: its control words, its records, the setup packet and the control pipe's request
use Rattle.std.specs.Prelude.{Bool, true, false, not, List, ◌≡◌, refl, ℕ, ◌%◌, eqb, length}
use Rattle.std.proofs.Common.{ap, subst, sym, ◌∙◌, eqb-true}
use Rattle.bits.specs.Walk.{set_bits}
use Rattle.regs.specs.declared.Access.{Access}
use Rattle.regs.specs.declared.Reg.{Reg}
use Rattle.regs.specs.declared.Reg.TheVariants.{EpTLen}
use Rattle.regs.specs.declared.Dir.{Dir}
use Rattle.regs.specs.declared.Dir.TheVariants.{Out, In}
use Rattle.regs.specs.Registers.{ctrl_of}
use Rattle.state.specs.declared.Globals.{Globals}
use Rattle.state.specs.Driver.{Driver, key, ep_on, with_on}
use Rattle.state.specs.Laws.{key_apart, key-same}
use Rattle.script.specs.Tree as tree
use Rattle.script.specs.Control.{setup_bytes}
use Rattle.script.specs.Machine.{Buf}
use Rattle.script.specs.Cells.{EpCore, Cell, Val, ep-cell, globals-cell}
use Rattle.script.specs.Script.{Script, get, ret, bind, test, read_then, write_then, callback_then, get_then, put_then}
use Rattle.script.specs.Script.{is_then, look_then, fetch_then, act_then, hand_then, run, Test, Look, Fetch, Act}
use Rattle.script.specs.Script.{DmaStep, dma_step_ask, arrive, send, place, place0}
use Rattle.script.specs.TransferKinds.{Among, allocates}
use Rattle.script.specs.SortsWalks.{among-ins}
use Rattle.script.specs.Statics.{is_on, with_last_frame, with_setup, every_iso_in}
use Rattle.script_ops.specs.Records.{merged}
use Rattle.script_ops.specs.Rings.{St}
use Rattle.script_ops.specs.Concrete.{concrete}
use Rattle.proof_book.specs.TransferKinds.{Steady}
use Rattle.proof_book.specs.TransferKindsLaws.{put-steady, act-steady}
use Rattle.proof_book.specs.Sorting.{Sorting}
use Rattle.proof_book.proofs.SortingLaws.{ep0-plain}
use Rattle.proof_usb20.specs.ExemptLaws.{differ}
use Rattle.proof_usb20.proofs.FittingLaws.{negated}
use Rattle.proof_usb20.specs.WalksLaws.{Each, each_set}
use Rattle.proof_usb20.specs.Log.{Log, off, reads, compared, writes, saw}
use Rattle.proof_usb20.specs.Watch.{at_end, at_ask}
use Rattle.proof_usb20.specs.WatchLaws.{watch-bind, watch-more, watch-cond}
use Rattle.proof_usb20.specs.Ep0.{Watch, view, rec_of, Between}
use Rattle.proof_usb20.specs.Ep0Laws.{record-view, act-view, hand-view}
use Rattle.proof_usb20.specs.ViewsLaws.{set_ready, made, ep-other, put_globals}

-- what stays of a state beside EP0's view: the records' places, and EP0 is not isochronous, nor among the isochronous
-- IN
pub record Plain0 (d : Driver) : Type 0 where
  pub whole : length d.eps ≡ 32
  pub plain : (dir : Dir) → is_on (ep_on d dir 0).iso ≡ false
  pub every : Among (λ e. not (eqb e 0)) d.globals.iso_in_every

abbrev pub Plainly : St → Type 0
Plainly s = Plain0 s.0

pub plainly : {d : Driver} → Sorting d → Plain0 d
plainly {d = d} z = record {
  whole = z.places;
  plain = λ dir. ep0-plain z dir;
  every
      = λ e l h. by e (eqb e 0) refl (z.has.every e l h);
}
  where
    by : (e : ℕ) (b : Bool) → eqb e 0 ≡ b → is_on (ep_on d In e).iso ≡ true → not b ≡ true
    by e false q h = refl
    by e true q h = differ (sym (ep0-plain z In) ∙ subst (λ (n : ℕ). is_on (ep_on d In n).iso ≡ true) (eqb-true e 0 q) h)

pub steadily : {d d' : Driver} → Steady d d' → Plain0 d → Plain0 d'
steadily p k = record {
  whole = p.places ∙ k.whole;
  plain = λ dir. ap is_on (p.flags dir 0) ∙ k.plain dir;
  every = λ e l h. k.every e l (rw p.every at h);
}

abbrev pub Stays : Log → St → Log → St → Type 0
Stays w s x t = (x ≡ w) × (view t.0 ≡ view s.0) × Plainly t

abbrev pub Any : Log → Access → Type 0
Any x q = Unit {0}

pub record LeavesLog {i : Bool} {A : Type 0} (p : Script i A) : Type 0 where
  pub goes : (w : Log) (s : St) → w.phase ≡ off → Plainly s
      → Watch Between Any {A = A} (λ x _ t. Stays w s x t) w (run concrete p s)

-- ---- how they are put together

pub q_ret : {i : Bool} {A : Type 0} {a : A} → LeavesLog (ret {i = i} a)
q_ret = record { goes = λ w s z k. at_end (refl, refl, k) }

pub q_bind : {i : Bool} {A B : Type 0} {p : Script i A} {f : A → Script i B} → LeavesLog p → ((a : A) → LeavesLog (f a))
    → LeavesLog (bind p f)
q_bind {f = f} x y = record {
  goes = λ w s z k. watch-bind (x.goes w s z k)
      (λ v a t l. subst (λ (u : Log). Watch Between Any (λ x _ t. Stays w s x t) u (run concrete (f a) t))
      (sym l.0) (watch-more ((y a).goes w t z l.2) (λ _ _ _ m. (m.0, m.1 ∙ l.1, m.2))));
}

pub q_test : {i : Bool} {A : Type 0} {b : Bool} {p q : Script i A} → LeavesLog p → LeavesLog q → LeavesLog (test b p q)
q_test {b = b} x y = record { goes = λ w s z k. watch-cond b (λ _. x.goes w s z k) (λ _. y.goes w s z k) }

-- with the test's answer
pub q_if : {i : Bool} {A : Type 0} (b : Bool) {p q : Script i A} → (b ≡ true → LeavesLog p) → (b ≡ false → LeavesLog q)
    → LeavesLog (test b p q)
q_if b x y = record { goes = λ w s z k. watch-cond b (λ h. (x h).goes w s z k) (λ h. (y h).goes w s z k) }

-- an access that leaves the log, the state as it was
pub asked : {A : Type 0} {q : Access} {s : St} {f : ℕ → St → tree.Out St A} (w : Log) → ((v : ℕ) → saw w q v s.1 ≡ w)
    → ((v : ℕ) (t : St) → Plainly t → Watch Between Any {A = A} (λ x _ u. Stays w t x u) w (f v t))
    → Watch Between Any {A = A} (λ x _ u. Stays w s x u) w (tree.asks q s f)
asked {s = s} {f = f} w e g = at_ask tt
    (λ v t b k. subst (λ (u : Log). Watch Between Any (λ x _ t. Stays w s x t) u (f v t))
    (sym (e v)) (watch-more (g v t (plainly k.1)) (λ _ _ _ m. (m.0, m.1 ∙ k.0, m.2))))

-- a reading, of no control word of EP0's
pub q-read-of : {i : Bool} {A : Type 0} {r : Reg} {e : ℕ} {f : ℕ → Script i A} → ((v : ℕ) (w : Log)
    → compared r e v w ≡ w)
    → ((v : ℕ) → LeavesLog (f v)) → LeavesLog (read_then r e f)
q-read-of {r = r} {e = e} h x = record {
  goes = λ w s z k. asked w (λ v. ap (reads w.phase r v) (h v w)
      ∙ ap (λ p. reads p r v w) z) (λ v t l. (x v).goes w t z l);
}

-- a write, of no control word of EP0's
pub q_write : {i : Bool} {A : Type 0} {r : Reg} {e v : ℕ} {p : Script i A} → ((b : Buf) (w : Log)
    → writes b r e v w ≡ w) → LeavesLog p
    → LeavesLog (write_then r e v p)
q_write h x = record { goes = λ w s z k. asked w (λ _. h s.1 w) (λ _ t l. x.goes w t z l) }

pub q_callback : {i : Bool} {A : Type 0} {p : Script i A} → LeavesLog p → LeavesLog (callback_then p)
q_callback x = record { goes = λ w s z k. asked w (λ _. refl) (λ _ t l. x.goes w t z l) }

pub q_get : {i : Bool} {A : Type 0} {c : Cell} {f : Val c → Script i A} → ((v : Val c) → LeavesLog (f v))
    → LeavesLog (get_then c f)
q_get {c = c} x = record { goes = λ w s z k. (x (concrete.get c s)).goes w s z k }

-- the isochronous IN endpoints that an interrupt walks: not EP0
pub q-every : {i : Bool} {A : Type 0} {f : Globals → Script i A}
    → ((g : Globals) → Each (λ e. eqb e 0 ≡ false) (set_bits (every_iso_in g)) → LeavesLog (f g))
    → LeavesLog (bind (get {i = i} globals-cell) f)
q-every {f = f} x = record {
  goes = λ w s z k. (x s.0.globals
      (each_set (every_iso_in s.0.globals)
      (λ e l h. negated (eqb e 0) (among-ins (λ e. not (eqb e 0)) s.0.globals k.every e l h)))).goes w s z k;
}

pub q_is : {i : Bool} {A : Type 0} {q : Test} {f : Bool → Script i A} → ((b : Bool) → LeavesLog (f b))
    → LeavesLog (is_then q f)
q_is {q = q} x = record { goes = λ w s z k. (x (concrete.is q s)).goes w s z k }

pub q_look : {i : Bool} {A : Type 0} {q : Look} {f : ℕ → Script i A} → ((n : ℕ) → LeavesLog (f n))
    → LeavesLog (look_then q f)
q_look {q = q} x = record { goes = λ w s z k. (x (concrete.look q s)).goes w s z k }

pub q_fetch : {i : Bool} {A : Type 0} {q : Fetch} {f : List ℕ → Script i A} → ((l : List ℕ) → LeavesLog (f l))
    → LeavesLog (fetch_then q f)
q_fetch {q = q} x = record { goes = λ w s z k. (x (concrete.fetch q s)).goes w s z k }

-- a state that shows the same
pub onward : {A : Type 0} {o : tree.Out St A} (w : Log) (s t : St) → view t.0 ≡ view s.0
    → Watch Between Any {A = A} (λ x _ u. Stays w t x u) w o → Watch Between Any {A = A} (λ x _ u. Stays w s x u) w o
onward w s t e x = watch-more x (λ _ _ _ m. (m.0, m.1 ∙ e, m.2))

pub q_act : {i : Bool} {A : Type 0} {q : Act} {p : Script i A} → allocates q ≡ false → LeavesLog p
    → LeavesLog (act_then q p)
q_act {q = q} h x = record {
  goes = λ w s z k. onward w s (concrete.act q s) (act-view q h s)
      (x.goes w (concrete.act q s) z (steadily (act-steady q h s) k));
}

-- an address of another endpoint's
abbrev pub elsewhere : DmaStep → Bool
elsewhere (arrive e n) = true
elsewhere (send e) = true
elsewhere (place d e) = true
elsewhere place0 = false

hand_silent : (q : DmaStep) → elsewhere q ≡ true → (x : ℕ) (w : Log) (b : Buf) (v : ℕ) → saw w (dma_step_ask q x) v b ≡ w
hand_silent (arrive e n) h x w b v = refl
hand_silent (send e) h x w b v = refl
hand_silent (place Out e) h x w b v = refl
hand_silent (place In e) h x w b v = refl
hand_silent place0 h x w b v = differ h

pub q_hand : {i : Bool} {A : Type 0} {q : DmaStep} {p : Script i A} → elsewhere q ≡ true → LeavesLog p
    → LeavesLog (hand_then q p)
q_hand {q = q} h x = record {
  goes = λ w s z k. onward w s (concrete.hand q s).1
      (hand-view q s) (asked w (hand_silent q h (concrete.hand q s).0 w (concrete.hand q s).1.1)
      (λ _ t l. x.goes w t z l));
}

-- an assignment that shows the same
pub q_put : {i : Bool} {A : Type 0} {c : Cell} {v : Val c} {p : Script i A}
    → ((s : St) → view (concrete.put c v s).0 ≡ view s.0) → LeavesLog p → LeavesLog (put_then c v p)
q_put {c = c} {v = v} e x = record {
  goes = λ w s z k. onward w s (concrete.put c v s) (e s)
      (x.goes w (concrete.put c v s) z (steadily (put-steady c v s) k));
}

-- a record that is read and changed
pub q_modify : {i : Bool} (c : Cell) (f : Val c → Val c)
    → ((s : St) → view (concrete.put c (f (concrete.get c s)) s).0 ≡ view s.0)
    → LeavesLog (bind {i = i} (get_then c ret) (λ p. put_then c (f p) (ret (tt {0}))))
q_modify c f e = record {
  goes = λ w s z k. onward w s (concrete.put c (f (concrete.get c s)) s)
      (e s) (at_end (refl, refl, steadily (put-steady c (f (concrete.get c s)) s) k));
}

-- ---- assignments

abbrev pub Other : ℕ → Type 0
Other e = e % 16 ≡ 0 → ⊥

pub apart : (d dir : Dir) (e : ℕ) → Other e → key dir 0 ≡ key d e → ⊥
apart Out Out e o q = o (sym (key-same Out 0 e q))
apart In In e o q = o (sym (key-same In 0 e q))
apart Out In e o q = key_apart e 0 (sym q)
apart In Out e o q = key_apart 0 e q

-- another endpoint's record
pub put_other : (d : Dir) (e : ℕ) → Other e → (v : EpCore) (s : St) → view (concrete.put (ep-cell d e) v s).0
    ≡ view s.0
unfolding with_on
put_other d e o v s = made _ _ (ap rec_of (ep-other s.0 d e (merged (ep_on s.0 d e) v) Out 0 (apart d Out e o)))
    (ap rec_of (ep-other s.0 d e (merged (ep_on s.0 d e) v) In 0 (apart d In e o))) refl refl refl refl refl refl
    refl

-- `last_frame` of any
pub put_frame : (d : Dir) (e frame : ℕ) (s : St)
    → view (concrete.put (ep-cell d e) (with_last_frame frame (concrete.get (ep-cell d e) s)) s).0 ≡ view s.0
put_frame d e frame s = record-view s.0 d e (merged (ep_on s.0 d e)
    (with_last_frame frame (concrete.get (ep-cell d e) s))) refl

-- the setup packet
abbrev pub setup_of : Globals → ℕ × ℕ × ℕ
setup_of g = (g.setup_ready, g.setup_low, g.setup_high)

-- the globals but for it
pub put_kept : (f : Globals → Globals) → ((g : Globals) → setup_of (f g) ≡ setup_of g) → (s : St)
    → view (concrete.put globals-cell (f (concrete.get globals-cell s)) s).0 ≡ view s.0
unfolding setup_bytes
put_kept f h s = put_globals (f s.0.globals) s
    ∙ ap (λ (z : ℕ × ℕ × ℕ). set_ready z.0 (setup_bytes (with_setup z.0 z.1 z.2 s.0.globals))
    (view s.0)) (h s.0.globals)

-- a control word of another endpoint's
pub other_word : (d : Dir) (e v : ℕ) → eqb e 0 ≡ false → (b : Buf) (w : Log) → writes b (ctrl_of d) e v w ≡ w
other_word Out e v h b w = rw h refl
other_word In e v h b w = rw h refl

pub other-read : (d : Dir) (e : ℕ) → eqb e 0 ≡ false → (v : ℕ) (w : Log) → compared (ctrl_of d) e v w ≡ w
other-read Out e h v w = rw h refl
other-read In e h v w = rw h refl

-- a length of another's
pub other_length_lem : (e v : ℕ) → eqb e 0 ≡ false → (b : Buf) (w : Log) → writes b EpTLen e v w ≡ w
other_length_lem e v h b w = rw h refl
