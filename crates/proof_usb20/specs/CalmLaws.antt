-- Scripts that leave the endpoint's record and the log alone, and how they are put together
use Rattle.std.specs.Prelude.{Bool, true, false, List, ◌≡◌, eqb, length, get_or}
use Rattle.std.proofs.Math.Path.{refl, ap, subst}
use Rattle.std.proofs.Common.{sym, ◌∙◌, arith}
use Prim.Native.Nat.{ℕ, zero, suc, ◌+◌, ◌%◌, ◌≤◌}
use borrow.Author.Tests.{ne_eqb}
use Rattle.regs.specs.declared.Access.{Access}
use Rattle.regs.specs.declared.Access.TheVariants.{Read, Write}
use Rattle.regs.specs.declared.Reg.{Reg}
use Rattle.regs.specs.declared.Reg.TheVariants.{EpRxCtrl, EpTxCtrl}
use Rattle.regs.specs.declared.Dir.{Dir}
use Rattle.regs.specs.declared.Dir.TheVariants.{Out, In}
use Rattle.state.specs.declared.Globals.{Globals}
use Rattle.state.specs.declared.Request.{Request}
use Rattle.state.specs.declared.Control.{Control}
use Rattle.state.specs.Kept.{with_int_en}
use Rattle.state.specs.Wakes.{Wakes, wake_code, bus_code, listed}
use Rattle.state.specs.WakesLaws.{Room}
use Rattle.proof_wake_ups.specs.Still.{put-still, act-still, hand-still}
use Rattle.state.specs.Driver.{Driver, key, no_ep, ep_on, with_on, with_request_on, with_paced_on}
use Rattle.script.specs.Tree as tree
use Rattle.script.specs.Cells.{EpCore, Cell, Val, ep-cell, globals-cell, control-cell, request-cell, paced_cell}
use Rattle.script.specs.Script.{Script, ret, bind, test, read_then, write_then, wait_then, callback_then, get_then}
use Rattle.script.specs.Script.{put_then, is_then, look_then, fetch_then, act_then, hand_then, run, Test, Look, Fetch}
use Rattle.script.specs.Script.{Act, complete, reset_ring, set_enabled_lem, fill, fill0, open_oldest, close_oldest}
use Rattle.script.specs.Script.{take_oldest, enqueue, allocate, allocate0, waken, DmaStep, dma_step_ask, arrive, send}
use Rattle.script.specs.Script.{place, place0}
use Rattle.script.specs.Spends.{Other}
use Rattle.script.specs.TransferKinds.{allocates}
use Rattle.script.specs.SortsWalks.{among-ins, among-outs}
use Rattle.script.specs.Every.{same_reg}
use Rattle.script.specs.Statics.{is_on, with_last_frame}
use Rattle.script_ops.specs.Records.{merged}
use Rattle.script_ops.specs.Rings.{St}
use Rattle.script_ops.specs.Concrete.{concrete}
use Rattle.proof_book.specs.TransferKinds.{Steady, Has}
use Rattle.proof_book.specs.TransferKindsLaws.{put-steady, act-steady, hand-steady}
use Rattle.proof_book.specs.Sorting.{sorts_of}
use Rattle.proof_usb20.specs.WalksLaws.{Each, each_set}
use Rattle.proof_usb20.specs.Sequence.{off, Track, how_often, reads, writes, saw}
use Rattle.proof_usb20.specs.FollowLaws as follow
use Rattle.proof_usb20.specs.Follow.{EpSeen, seen_of, view, Between, Follow}
use Rattle.proof_usb20.specs.Watch.{at_end, at_ask}
use Rattle.proof_usb20.specs.WokenLaws.{Others, all_others}
use Rattle.proof_usb20.specs.FollowLaws.{record-view, act-view, hand-view}
use Rattle.bits.specs.Walk.{set_bits}
use Rattle.script.specs.Script.{when, get, no_wakes}
use Rattle.script.specs.Statics.{wake, wake_bus, every_iso_in, iso_outs, modify, modify_ep, modify_reg, modify_int_en}
use Rattle.script.specs.Answers.{Answer, staged, operation, resultless}
use Rattle.script.specs.Handler.{looks}
use Rattle.script.specs.Endpoint.{enabled_else, ends_request, empty_request}
use Rattle.proof_usb20.specs.ExemptLaws.{differ}
use Rattle.proof_usb20.specs.ViewsLaws.{ep-other}

-- the records' places
abbrev pub Whole : St → Type 0
Whole s = length s.0.eps ≡ 32

module _ (D : Dir) (E : ℕ) where
  -- no reading but of a control word tells the log anything
  abbrev pub Idle : Track → Type 0
  Idle w = (r : Reg) (e v : ℕ) → same_reg r EpRxCtrl ≡ false → same_reg r EpTxCtrl ≡ false → saw D E w (Read r e) v ≡ w

  abbrev pub Off : Track → Type 0
  Off w = w.phase ≡ off

  -- no write does
  abbrev pub WritesTellNothing : Track → Type 0
  WritesTellNothing w = (r : Reg) (e v x : ℕ) → saw D E w (Write r e v) x ≡ w

  pub off-all : (w : Track) → Off w → (r : Reg) (e v : ℕ) → saw D E w (Read r e) v ≡ w
  off-all w h r e v = ap (λ p. reads D E p r e v w) h

  pub off-idle : (w : Track) → Off w → Idle w
  off-idle w h r e v _ _ = off-all w h r e v

  pub off-hush : (w : Track) → Off w → WritesTellNothing w
  off-hush w h r e v x = ap (λ p. writes D E p r e v w) h

  -- ---- what stays of a state beside the endpoint's view. Of an interrupt (`m`): the sets of isochronous endpoints,
  -- among which it is not, and the list of wake-ups

  -- another endpoint
  abbrev pub Else : Dir → ℕ → Type 0
  Else d e = key D E ≡ key d e → ⊥

  pub record CalmKept (m : Bool) (s : St) : Type 0 where
    pub whole : Whole s
    pub sorts : m ≡ true → Has (sorts_of s.0) s.0
    pub plain : m ≡ true → is_on (ep_on s.0 D E).iso ≡ false
    pub room : m ≡ true → Room s.0.wakes

  -- how often its task is to be woken
  abbrev pub heard : St → ℕ
  heard s = how_often (wake_code D E) (listed s.0.wakes)

  -- no wake-up of its task, and none lost
  pub record Hears (m : Bool) (s t : St) : Type 0 where
    pub same : m ≡ true → heard t ≡ heard s
    pub grows : m ≡ true → s.0.wakes.count ≤ t.0.wakes.count

  pub hears_same : {m : Bool} {s t : St} → t.0.wakes ≡ s.0.wakes → Hears m s t
  hears_same {s = s} {t = t} e = record {
    same = λ _. ap (λ (w : Wakes). how_often (wake_code D E) (listed w)) e;
    grows = λ _. le (ap (λ (w : Wakes). w.count) e);
  }
    where
      le : {x y : ℕ} → y ≡ x → x ≤ y
      le {x = x} {y = y} h = omega (arith, h)

  pub hears_then : {m : Bool} {s t u : St} → Hears m s t → Hears m t u → Hears m s u
  hears_then {s = s} {t = t} {u = u} p q = record {
    same = λ h. q.same h ∙ p.same h;
    grows
        = λ h. le (p.grows h) (q.grows h);
  }
    where
      le : {x y z : ℕ} → x ≤ y → y ≤ z → x ≤ z
      le {x = x} {y = y} {z = z} a b = omega (arith, a, b)

  -- by the driver's operations
  pub kept_steady : {m : Bool} {s t : St} → Steady s.0 t.0 → t.0.wakes ≡ s.0.wakes → CalmKept m s
      → CalmKept m t
  kept_steady p e k = record {
    whole = p.places ∙ k.whole;
    sorts = λ h. record {
      flags = λ dir e. refl;
      outs = λ e l g. ap is_on (p.flags Out e) ∙ (k.sorts h).outs e l (rw p.outs at g);
      every = λ e l g. ap is_on (p.flags In e) ∙ (k.sorts h).every e l (rw p.every at g);
    };
    plain = λ h. ap is_on (p.flags D E) ∙ k.plain h;
    room = λ h. subst Room (sym e) (k.room h);
  }

  -- between two accesses
  pub kept_by : {m : Bool} {s t : St} → Between D E s t → CalmKept m s → CalmKept m t
  kept_by p k = record {
    whole = p.1.places;
    sorts = λ _. p.1.has;
    plain = λ h. ap (λ (x : EpSeen). is_on x.iso) p.0 ∙ k.plain h;
    room = λ h. subst Room (sym p.2) (k.room h);
  }

  -- of a call that is no interrupt
  pub loose : {s : St} → Whole s → CalmKept false s
  loose l = record { whole = l; sorts = λ h. differ h; plain = λ h. differ h; room = λ h. differ h }

  pub loosely : {s t : St} → Hears false s t
  loosely = record { same = λ h. differ h; grows = λ h. differ h }

  abbrev pub Stays : Bool → Track → St → Track → St → Type 0
  Stays m w s x t = (x ≡ w) × (view D E t.0 ≡ view D E s.0) × CalmKept m t × Hears m s t

  pub record LeavesTrack (m : Bool) (P : Track → Type 0) {i : Bool} {A : Type 0} (p : Script i A) : Type 0 where
    pub goes : (w : Track) (s : St) → P w × WritesTellNothing w → CalmKept m s
        → Follow D E {A = A} (λ x _ t. Stays m w s x t) w (run concrete p s)

  pub only : {m : Bool} {P Q : Track → Type 0} {i : Bool} {A : Type 0} {p : Script i A} → ((w : Track) → P w → Q w)
      → LeavesTrack m Q p → LeavesTrack m P p
  only f x = record { goes = λ w s z k. x.goes w s (f w z.0, z.1) k }

  -- ---- how they are put together

  -- an access that leaves the log, the state as it was
  pub asked : {m : Bool} {A : Type 0} {q : Access} {s : St} {f : ℕ → St → tree.Out St A} (w : Track) → CalmKept m s
      → ((v : ℕ) → saw D E w q v ≡ w)
      → ((v : ℕ) (t : St) → CalmKept m t → Follow D E {A = A} (λ x _ u. Stays m w t x u) w (f v t))
      → Follow D E {A = A} (λ x _ u. Stays m w s x u) w (tree.asks q s f)
  asked {m = m} {s = s} {f = f} w l e g = at_ask tt
      (λ v t _ k. subst (λ (u : Track). Follow D E (λ x _ t. Stays m w s x t) u (f v t)) (sym (e v))
      (follow.follow-more D E (g v t (kept_by k l)) (λ _ _ _ n.
      (n.0, n.1 ∙ k.0, n.2, hears_then (hears_same k.2) n.3))))

  -- a state that shows the same
  pub onward : {m : Bool} {A : Type 0} {o : tree.Out St A} (w : Track) (s t : St) → view D E t.0 ≡ view D E s.0
      → Hears m s t → Follow D E {A = A} (λ x _ u. Stays m w t x u) w o
      → Follow D E {A = A} (λ x _ u. Stays m w s x u) w o
  onward w s t e h x = follow.follow-more D E x (λ _ _ _ n. (n.0, n.1 ∙ e, n.2, hears_then h n.3))

  hand_silent : (q : DmaStep) (x : ℕ) (w : Track) (v : ℕ) → saw D E w (dma_step_ask q x) v ≡ w
  hand_silent (arrive e n) x w v = refl
  hand_silent (send e) x w v = refl
  hand_silent (place Out e) x w v = refl
  hand_silent (place In e) x w v = refl
  hand_silent place0 x w v = refl

  -- ---- wake-ups

  -- which operations leave them
  abbrev pub LeavesWakes : Act → Type 0
  LeavesWakes no_wakes = ⊥
  LeavesWakes (waken codes) = Others (wake_code D E) codes
  LeavesWakes (complete e) = Unit {0}
  LeavesWakes (reset_ring d e) = Unit {0}
  LeavesWakes (set_enabled_lem d e on) = Unit {0}
  LeavesWakes (fill e bytes) = Unit {0}
  LeavesWakes (fill0 bytes) = Unit {0}
  LeavesWakes (open_oldest e) = Unit {0}
  LeavesWakes (close_oldest e) = Unit {0}
  LeavesWakes (take_oldest e) = Unit {0}
  LeavesWakes (enqueue e bytes) = Unit {0}
  LeavesWakes (allocate d kind address maximum interval) = Unit {0}
  LeavesWakes (allocate0 maximum) = Unit {0}

  abbrev pub LeavesWakesIf : Bool → Act → Type 0
  LeavesWakesIf m q = m ≡ true → LeavesWakes q

  still_kept : {m : Bool} (q : Act) → allocates q ≡ false → Other q → (s : St) → CalmKept m s
      → CalmKept m (concrete.act q s) × Hears m s (concrete.act q s)
  still_kept q h o s k = let e = act-still q o s in (kept_steady (act-steady q h s) e k, hears_same e)

  pub act_kept : {m : Bool} (q : Act) → allocates q ≡ false → LeavesWakesIf m q → (s : St) → CalmKept m s
      → CalmKept m (concrete.act q s) × Hears m s (concrete.act q s)
  unfolding ep_on
  act_kept no_wakes h o s k = (
    record {
      whole = (act-steady no_wakes refl s).places ∙ k.whole;
      sorts = λ q. absurd (o q);
      plain = λ q. absurd (o q);
      room = λ q. absurd (o q);
    },
    record { same = λ q. absurd (o q); grows = λ q. absurd (o q) },
  )
  act_kept (waken codes) h o s k =
      let p = act-steady (waken codes) refl s in (
        record {
          whole = p.places ∙ k.whole;
          sorts = λ h. record {
            flags = λ dir e. refl;
            outs = λ e l g. (k.sorts h).outs e l g;
            every
                = λ e l g. (k.sorts h).every e l g;
          };
          plain = λ h. k.plain h;
          room = λ h. (all_others (wake_code D E) codes s.0.wakes (k.room h) (o h)).0;
        },
        record {
          same = λ h. (all_others (wake_code D E) codes s.0.wakes (k.room h) (o h)).1;
          grows = λ h. (all_others (wake_code D E) codes s.0.wakes (k.room h) (o h)).2;
        },
      )
  act_kept (complete e) h o s k = still_kept (complete e) h tt s k
  act_kept (reset_ring d e) h o s k = still_kept (reset_ring d e) h tt s k
  act_kept (set_enabled_lem d e on) h o s k = still_kept (set_enabled_lem d e on) h tt s k
  act_kept (fill e bytes) h o s k = still_kept (fill e bytes) h tt s k
  act_kept (fill0 bytes) h o s k = still_kept (fill0 bytes) h tt s k
  act_kept (open_oldest e) h o s k = still_kept (open_oldest e) h tt s k
  act_kept (close_oldest e) h o s k = still_kept (close_oldest e) h tt s k
  act_kept (take_oldest e) h o s k = still_kept (take_oldest e) h tt s k
  act_kept (enqueue e bytes) h o s k = still_kept (enqueue e bytes) h tt s k
  act_kept (allocate d kind address maximum interval) h o s k = differ (sym h)
  act_kept (allocate0 maximum) h o s k = differ (sym h)

  pub put_kept : {m : Bool} (c : Cell) (v : Val c) (s : St) → CalmKept m s → CalmKept m (concrete.put c v s)
  put_kept c v s k = kept_steady (put-steady c v s) (put-still c v s) k

  pub put_hears : {m : Bool} (c : Cell) (v : Val c) (s : St) → Hears m s (concrete.put c v s)
  put_hears c v s = hears_same (put-still c v s)

  iso_apart : (s : St) (d : Dir) (e : ℕ) → is_on (ep_on s.0 D E).iso ≡ false → is_on (ep_on s.0 d e).iso ≡ true
      → Else d e
  unfolding ep_on
  iso_apart s d e p h q = differ (sym p ∙ subst (λ (n : ℕ). is_on (get_or s.0.eps n no_ep).iso ≡ true) (sym q) h)

  module _ {m : Bool} {P : Track → Type 0} where
    pub q_ret : {i : Bool} {A : Type 0} {a : A} → LeavesTrack m P (ret {i = i} a)
    q_ret = record { goes = λ w s z k. at_end (refl, refl, k, hears_same refl) }

    pub q_bind : {i : Bool} {A B : Type 0} {p : Script i A} {f : A → Script i B} → LeavesTrack m P p
        → ((a : A) → LeavesTrack m P (f a)) → LeavesTrack m P (bind p f)
    q_bind {f = f} x y = record {
      goes = λ w s z k. follow.follow-bind D E (x.goes w s z k)
          (λ v a t l. subst (λ (u : Track). Follow D E (λ x _ t. Stays m w s x t) u (run concrete (f a) t)) (sym l.0)
          (follow.follow-more D E ((y a).goes w t z l.2)
          (λ _ _ _ n. (n.0, n.1 ∙ l.1, n.2, hears_then l.3 n.3))));
    }

    pub q_test : {i : Bool} {A : Type 0} {b : Bool} {p q : Script i A} → LeavesTrack m P p → LeavesTrack m P q
        → LeavesTrack m P (test b p q)
    q_test {b = b} x y = record {
      goes = λ w s z k. follow.follow-cond D E b (λ _. x.goes w s z k)
          (λ _. y.goes w s z k);
    }

    pub q_if : {i : Bool} {A : Type 0} (b : Bool) {p q : Script i A} → (b ≡ true → LeavesTrack m P p)
        → (b ≡ false → LeavesTrack m P q) → LeavesTrack m P (test b p q)
    q_if b x y = record { goes = λ w s z k. follow.follow-cond D E b (λ h. (x h).goes w s z k) (λ h. (y h).goes w s z k) }

    pub q_read : {i : Bool} {A : Type 0} {r : Reg} {e : ℕ} {f : ℕ → Script i A}
        → ((w : Track) → P w → (v : ℕ) → saw D E w (Read r e) v ≡ w) → ((v : ℕ) → LeavesTrack m P (f v))
        → LeavesTrack m P (read_then r e f)
    q_read g x = record { goes = λ w s z k. asked w k (g w z.0) (λ v t l. (x v).goes w t z l) }

    pub q_write : {i : Bool} {A : Type 0} {r : Reg} {e v : ℕ} {p : Script i A} → LeavesTrack m P p
        → LeavesTrack m P (write_then r e v p)
    q_write {r = r} {e = e} {v = v} x = record {
      goes = λ w s z k. asked w k (λ n. z.1 r e v n)
          (λ _ t l. x.goes w t z l);
    }

    pub q_wait : {i : Bool} {A : Type 0} {n : ℕ} {p : Script i A} → LeavesTrack m P p → LeavesTrack m P (wait_then n p)
    q_wait x = record { goes = λ w s z k. asked w k (λ _. refl) (λ _ t l. x.goes w t z l) }

    pub q_callback : {i : Bool} {A : Type 0} {p : Script i A} → LeavesTrack m P p → LeavesTrack m P (callback_then p)
    q_callback x = record { goes = λ w s z k. asked w k (λ _. refl) (λ _ t l. x.goes w t z l) }

    pub q_get : {i : Bool} {A : Type 0} {c : Cell} {f : Val c → Script i A} → ((v : Val c) → LeavesTrack m P (f v))
        → LeavesTrack m P (get_then c f)
    q_get {c = c} x = record { goes = λ w s z k. (x (concrete.get c s)).goes w s z k }

    -- the isochronous endpoints that an interrupt walks: others
    pub q_ins : {i : Bool} {A : Type 0} {f : Globals → Script i A}
        → ((g : Globals) → Each (λ e. m ≡ true → Else In e) (set_bits (every_iso_in g)) → LeavesTrack m P (f g))
        → LeavesTrack m P (bind (get {i = i} globals-cell) f)
    q_ins x = record {
      goes = λ w s z k. (x s.0.globals
          (each_set (every_iso_in s.0.globals)
          (λ e l h t q. iso_apart s In e (k.plain t) (among-ins (sorts_of s.0 In) s.0.globals (k.sorts t).every
          e l h) q))).goes w s z k;
    }

    pub q_outs : {i : Bool} {A : Type 0} {f : Globals → Script i A}
        → ((g : Globals) → Each (λ e. m ≡ true → Else Out e) (set_bits (iso_outs g)) → LeavesTrack m P (f g))
        → LeavesTrack m P (bind (get {i = i} globals-cell) f)
    q_outs x = record {
      goes = λ w s z k. (x s.0.globals
          (each_set (iso_outs s.0.globals) (λ e l h t q. iso_apart s Out e
          (k.plain t) (among-outs (sorts_of s.0 Out) s.0.globals (k.sorts t).outs e l h) q))).goes w s z k;
    }

    pub q_is : {i : Bool} {A : Type 0} {q : Test} {f : Bool → Script i A} → ((b : Bool) → LeavesTrack m P (f b))
        → LeavesTrack m P (is_then q f)
    q_is {q = q} x = record { goes = λ w s z k. (x (concrete.is q s)).goes w s z k }

    pub q_look : {i : Bool} {A : Type 0} {q : Look} {f : ℕ → Script i A} → ((n : ℕ) → LeavesTrack m P (f n))
        → LeavesTrack m P (look_then q f)
    q_look {q = q} x = record { goes = λ w s z k. (x (concrete.look q s)).goes w s z k }

    pub q_fetch : {i : Bool} {A : Type 0} {q : Fetch} {f : List ℕ → Script i A} → ((l : List ℕ) → LeavesTrack m P (f l))
        → LeavesTrack m P (fetch_then q f)
    q_fetch {q = q} x = record { goes = λ w s z k. (x (concrete.fetch q s)).goes w s z k }

    pub q_act_as : {i : Bool} {A : Type 0} {q : Act} {p : Script i A} → allocates q ≡ false → LeavesWakesIf m q
        → LeavesTrack m P p
        → LeavesTrack m P (act_then q p)
    q_act_as {q = q} h o x = record {
      goes = λ w s z k. let n = act_kept q h o s k in
          onward w s (concrete.act q s) (act-view D E q h s) n.1 (x.goes w (concrete.act q s) z n.0);
    }

    pub q_hand : {i : Bool} {A : Type 0} {q : DmaStep} {p : Script i A} → LeavesTrack m P p
        → LeavesTrack m P (hand_then q p)
    q_hand {q = q} x = record {
      goes = λ w s z k. onward w s (concrete.hand q s).1 (hand-view D E q s) (hears_same (hand-still q s))
          (asked w (kept_steady (hand-steady q s) (hand-still q s) k) (hand_silent q (concrete.hand q s).0 w)
          (λ _ t l. x.goes w t z l));
    }

    -- an assignment that shows the same
    pub q_put : {i : Bool} {A : Type 0} {c : Cell} {v : Val c} {p : Script i A}
        → ((s : St) → view D E (concrete.put c v s).0 ≡ view D E s.0) → LeavesTrack m P p
        → LeavesTrack m P (put_then c v p)
    q_put {c = c} {v = v} e x = record {
      goes = λ w s z k. onward w s (concrete.put c v s) (e s) (put_hears c v s)
          (x.goes w (concrete.put c v s) z (put_kept c v s k));
    }

    -- a record that is read and changed
    pub q_modify : {i : Bool} (c : Cell) (f : Val c → Val c)
        → ((s : St) → view D E (concrete.put c (f (concrete.get c s)) s).0 ≡ view D E s.0)
        → LeavesTrack m P (bind {i = i} (get_then c ret) (λ p. put_then c (f p) (ret (tt {0}))))
    q_modify c f e = record {
      goes = λ w s z k. at_end
          (refl, e s, put_kept c (f (concrete.get c s)) s k, put_hears c (f (concrete.get c s)) s);
    }

  -- of a call that is no interrupt
  module _ {P : Track → Type 0} where
    pub q_act : {i : Bool} {A : Type 0} {q : Act} {p : Script i A} → allocates q ≡ false → LeavesTrack false P p
        → LeavesTrack false P (act_then q p)
    q_act h x = q_act_as h (λ e. differ e) x

  -- ---- assignments

  -- another endpoint's record
  pub with_other : (x : Driver) (d : Dir) (e : ℕ) (r : _) → Else d e → view D E (with_on x d e r) ≡ view D E x
  unfolding with_on
  with_other x d e r o = ap (λ q. seen_of q x.globals.stage) (ep-other x d e r D E o)

  pub put_other : (d : Dir) (e : ℕ) → Else d e → (v : EpCore) (s : St)
      → view D E (concrete.put (ep-cell d e) v s).0 ≡ view D E s.0
  put_other d e o v s = with_other s.0 d e (merged (ep_on s.0 d e) v) o

  -- `last_frame` of any
  pub put_frame : (d : Dir) (e frame : ℕ) (s : St)
      → view D E (concrete.put (ep-cell d e) (with_last_frame frame (concrete.get (ep-cell d e) s)) s).0
      ≡ view D E s.0
  put_frame d e frame s = record-view D E s.0 d e (merged (ep_on s.0 d e)
      (with_last_frame frame (concrete.get (ep-cell d e) s))) refl

  pub put_globals : (g : Globals) (s : St) → view D E (concrete.put globals-cell g s).0 ≡ view D E s.0
  unfolding ep_on
  put_globals g s = refl

  pub put_control : (c : Control) (s : St) → view D E (concrete.put control-cell c s).0 ≡ view D E s.0
  unfolding ep_on
  put_control c s = refl

  pub put_request : (d : Dir) (e : ℕ) (v : Request) (s : St)
      → view D E (concrete.put (request-cell d e) v s).0 ≡ view D E s.0
  unfolding with_request_on ep_on
  put_request d e v s = refl

  pub put_paced : (e v : ℕ) (s : St) → view D E (concrete.put (paced_cell e) v s).0 ≡ view D E s.0
  unfolding with_paced_on ep_on
  put_paced e v s = refl

  -- ---- small ones

  code_apart : (d : Dir) (e : ℕ) → Else d e → eqb (wake_code d e) (wake_code D E) ≡ false
  unfolding wake_code key
  code_apart Out e o = ne_eqb _ _ (by D refl)
    where
      by : (d : Dir) → D ≡ d → wake_code Out e ≡ wake_code D E → ⊥
      by Out g q = o (subst (λ (x : Dir). key x E ≡ key Out e) (sym g)
          (omega (arith, subst (λ (x : Dir). wake_code Out e ≡ wake_code x E) g q)))
      by In g q = let z : 16 + e % 16 ≡ E % 16 = subst (λ (x : Dir). wake_code Out e ≡ wake_code x E) g q in absurd
          (omega (arith, z))
  code_apart In e o = ne_eqb _ _ (by D refl)
    where
      by : (d : Dir) → D ≡ d → wake_code In e ≡ wake_code D E → ⊥
      by In g q = o (subst (λ (x : Dir). key x E ≡ key In e) (sym g)
          (omega (arith, subst (λ (x : Dir). wake_code In e ≡ wake_code x E) g q)))
      by Out g q = let z : e % 16 ≡ 16 + E % 16 = subst (λ (x : Dir). wake_code In e ≡ wake_code x E) g q in absurd
          (omega (arith, z))

  bus_apart : eqb bus_code (wake_code D E) ≡ false
  unfolding wake_code
  bus_apart = ne_eqb _ _ (by D refl)
    where
      by : (d : Dir) → D ≡ d → bus_code ≡ wake_code D E → ⊥
      by In g q = let z : 32 ≡ E % 16 = subst (λ (x : Dir). bus_code ≡ wake_code x E) g q in absurd (omega (arith, z))
      by Out g q = let z : 32 ≡ 16 + E % 16 = subst (λ (x : Dir). bus_code ≡ wake_code x E) g q in absurd
          (omega (arith, z))

  module _ {m : Bool} {P : Track → Type 0} where
    pub q_got : {i : Bool} (c : Cell) → LeavesTrack m P (get {i = i} c)
    q_got c = q_get (λ _. q_ret)

    pub q_wakes : {i : Bool} (d : Dir) (e : ℕ) → (m ≡ true → Else d e) → LeavesTrack m P (wake {i = i} d e)
    q_wakes d e o = q_act_as refl (λ h. (code_apart d e (o h), tt)) q_ret

    pub q_wake_bus : {i : Bool} → LeavesTrack m P (wake_bus {i = i})
    q_wake_bus = q_act_as refl (λ _. (bus_apart, tt)) q_ret

    pub q_when : {i : Bool} {b : Bool} {p : Script i Unit} → LeavesTrack m P p → LeavesTrack m P (when b p)
    q_when x = q_test x q_ret

    pub q_ep : {i : Bool} (d : Dir) (e : ℕ) (f : EpCore → EpCore) → Else d e → LeavesTrack m P (modify_ep {i = i} d e f)
    q_ep d e f o = q_modify (ep-cell d e) f (λ s. put_other d e o (f (concrete.get (ep-cell d e) s)) s)

    pub q_globals : {i : Bool} (f : Globals → Globals) → LeavesTrack m P (modify {i = i} f)
    q_globals f = q_modify globals-cell f (λ s. put_globals (f (concrete.get globals-cell s)) s)

    pub q_staged : {i : Bool} (n : ℕ) {p : Script i Answer} → LeavesTrack m P p → LeavesTrack m P (staged n p)
    q_staged n x = q_bind (q_got globals-cell) (λ g. q_test x q_ret)

    pub q_enabled : {i : Bool} (d : Dir) (e : ℕ) {p q : Script i Answer} → LeavesTrack m P q → LeavesTrack m P p
        → LeavesTrack m P (enabled_else d e q p)
    q_enabled d e x y = q_bind (q_got globals-cell) (λ g. q_test y x)

    pub q_ends : {i : Bool} (d : Dir) (e : ℕ) (a : Answer) → LeavesTrack m P (ends_request {i = i} d e a)
    q_ends d e a = q_bind (q_put (put_request d e empty_request) q_ret) (λ _. q_ret)

    pub q_int_en : {i : Bool} (f : ℕ → ℕ) → LeavesTrack m P (modify_int_en {i = i} f)
    q_int_en f = q_bind (q_got globals-cell) (λ g. q_bind (q_put (put_globals (with_int_en (f g.int_en) g)) q_ret)
        (λ _. q_write q_ret))

  module _ {P : Track → Type 0} where
    pub q_wake : {i : Bool} (d : Dir) (e : ℕ) → LeavesTrack false P (wake {i = i} d e)
    q_wake d e = q_act refl q_ret

    pub q_operation : {i : Bool} {p : Script i ℕ} → LeavesTrack false P p → LeavesTrack false P (operation p)
    q_operation x = q_bind (q_act refl q_ret) (λ _. q_bind x (λ n. q_bind (q_fetch (λ _. q_ret)) (λ w. q_ret)))

    pub q_resultless : {i : Bool} {p : Script i Unit} → LeavesTrack false P p → LeavesTrack false P (resultless p)
    q_resultless x = q_operation (q_bind x (λ _. q_ret))

  -- a reading of no control word
  abbrev pub idle_read : {m : Bool} {i : Bool} {A : Type 0} {r : Reg} {e : ℕ} {f : ℕ → Script i A}
      → same_reg r EpRxCtrl ≡ false → same_reg r EpTxCtrl ≡ false → ((v : ℕ) → LeavesTrack m Idle (f v))
      → LeavesTrack m Idle (read_then r e f)
  idle_read {r = r} {e = e} h k x = q_read (λ w z v. z r e v h k) x

  pub off_read : {m : Bool} {i : Bool} {A : Type 0} {r : Reg} {e : ℕ} {f : ℕ → Script i A}
      → ((v : ℕ) → LeavesTrack m Off (f v)) → LeavesTrack m Off (read_then r e f)
  off_read {r = r} {e = e} x = q_read (λ w z v. off-all w z r e v) x

  pub q_reg : {m : Bool} {i : Bool} (r : Reg) (e : ℕ) (f : ℕ → ℕ) → LeavesTrack m Off (modify_reg {i = i} r e f)
  q_reg r e f = q_bind (off_read (λ _. q_ret)) (λ v. q_write q_ret)

  pub q_looks : {m : Bool} {i : Bool} (n : ℕ) → LeavesTrack m Idle (looks {i = i} n)
  unfolding looks
  q_looks zero = q_ret
  q_looks (suc n) = q_bind (idle_read refl refl (λ _. q_ret)) (λ _. q_test q_ret (q_looks n))
