-- The laws of halts, of a bus reset and of the calls before EP0's start
use Rattle.std.specs.Prelude.{Bool, ◌&&◌, ◌≡◌, length}
use Rattle.std.proofs.Math.Bool.{true, false, not, cond, and-false}
use mathlib.Core.List.{List, [], ◌∷◌}
use Rattle.std.proofs.Math.Path.{refl, subst, sym}
use Rattle.std.proofs.Common.{ap, ◌∙◌, arith, eqb-true, ne_eqb}
use Prim.Native.Nat.{ℕ, zero, suc, ◌%◌}
use Rattle.std.proofs.Math.Dec.{eqb}
use Rattle.regs.specs.declared.Reg.TheVariants.{EpRxCtrl, EpTxCtrl}
use Rattle.regs.specs.declared.Dir.{Dir}
use Rattle.regs.specs.declared.Dir.TheVariants.{Out, In}
use Rattle.regs.specs.Flags.{bus_rst, suspend}
use Rattle.regs.specs.MisStatus.{suspended}
use Rattle.regs.specs.IntEn.{with_bus_rst, with_suspend}
use Rattle.state.specs.Kept.{with_int_en}
use Rattle.state.specs.Wakes.{wake_code, every_endpoint}
use Rattle.state.specs.Driver.{Driver, key, ep_on, with_allocator}
use Rattle.state.specs.Laws.{key_apart}
use Rattle.alloc.specs.declared.Answer as alloc
use Rattle.alloc.specs.declared.Answer.TheVariants as variant
use Rattle.alloc.specs.Alloc.{allocate_of, allocate_ep0_of}
use Rattle.descriptor.specs.declared.Endpoint.{Endpoint}
use Rattle.descriptor.specs.declared.Answer as listing
use Rattle.descriptor.specs.declared.Answer.TheVariants as listed
use Rattle.descriptor.specs.Reading.{reading_of, list_of}
use Rattle.descriptor.specs.Trial.{direction_of, trial_of}
use Rattle.script.specs.Tree as tree
use Rattle.script.specs.Cells.{ep-cell, allocator-cell}
use Rattle.script.specs.Script.{bind, run, row, rows, bus_reset_lem, no_wakes, waken, allocate, allocate0}
use Rattle.script.specs.Statics.{is_on, with_tog, completed, wake, wake_all, with_power}
use Rattle.script.specs.Answers.{is_allocated, operation, resultless}
use Rattle.script.specs.Bus as bus
use Rattle.script.specs.Driver.{new_endpoint, allocated_as, start_ep0, started_as}
use Rattle.script.specs.AllocateAll.{allocate_each, announce, begins_at, announce_after, announce_all, allocate_read}
use Rattle.script.specs.Calls.{other, Allocate, AllocateAll, Start, BusPoll, SetStalled, code}
use Rattle.script.specs.Usb20Toggles.{initial}
use Rattle.script_ops.specs.Records.{plain_of, started_with, allocated_ep0}
use Rattle.script_ops.specs.Rings.{St}
use Rattle.script_ops.specs.Concrete.{concrete}
use Rattle.proof_book.specs.TransferKindsLaws.{act-steady}
use Rattle.proof_usb20.specs.ExemptLaws.{differ}
use Rattle.proof_usb20.specs.Sequence as log
use Rattle.proof_usb20.specs.Sequence.{Track, off, with_phase, own}
use Rattle.proof_usb20.specs.FollowLaws as follow
use Rattle.proof_usb20.specs.Follow.{EpSeen, FitsAs, Fits, view, Follow, Ends, Law}
use Rattle.proof_usb20.specs.Watch.{at_end, at_ask}
use Rattle.proof_usb20.specs.FollowLaws.{act-view}
use Rattle.proof_usb20.specs.CalmLaws.{Whole, Off, Else, LeavesTrack, loose, put_other, put_globals, q_bind, q_ep}
use Rattle.proof_usb20.specs.CalmLaws.{q_got}
use Rattle.proof_usb20.specs.CalmLaws.{q_hand, q_operation, q_put, q_reg, q_resultless, q_ret, q_staged, q_test}
use Rattle.proof_usb20.specs.CalmLaws.{q_wake, q_when, q_write}
use Rattle.proof_usb20.specs.ReadingLaws as reading
use Rattle.proof_usb20.specs.ReadingLaws.{quiet-law, Own, written, changed, fits-2, own-true, own-false, not-and}
use Rattle.proof_usb20.specs.ReadingLaws.{iso-own}
use Rattle.proof_usb20.specs.AnewLaws.{reset_fits, alloc_fits}

started-places : (maximum : ℕ) (x : Driver) → length x.eps ≡ 32 → length (allocated_ep0 x maximum).eps ≡ 32
unfolding allocated_ep0 started_with
started-places maximum x l = by (allocate_ep0_of x.allocator maximum).answer
    (with_allocator x (allocate_ep0_of x.allocator maximum).after) l
  where
    by : (a : alloc.Answer) (y : Driver) → length y.eps ≡ 32 → length (started_with maximum a y).eps ≡ 32
    by (variant.Refused n) y l = l
    by (variant.Given e base slots) y l = l

module _ (D : Dir) (E : ℕ) (w : Track) where
  started : (maximum : ℕ) (x : Driver) → Fits w (view D E x) → Fits w (view D E (allocated_ep0 x maximum))
  unfolding allocated_ep0 started_with ep_on
  started maximum x r = by (allocate_ep0_of x.allocator maximum).answer
      (with_allocator x (allocate_ep0_of x.allocator maximum).after) r
    where
      by : (a : alloc.Answer) (y : Driver) → Fits w (view D E y) → Fits w (view D E (started_with maximum a y))
      by (variant.Refused n) y r = r
      by (variant.Given e base slots) y r = record {
        tog = r.tog;
        ready = r.ready;
        len = r.len;
        armed
            = r.armed;
        early = λ h. differ (sym h);
      }

module _ (D : Dir) (E : ℕ) where
  -- ---- halts

  q-stalled : {i : Bool} (d : Dir) (e : ℕ) (on : Bool) → Else D E d e
      → LeavesTrack D E false (Off D E) (bus.set_stalled {i = i} d e on)
  q-stalled Out e true m = (q_bind D E) ((q_reg D E) EpRxCtrl e _) (λ _. (q_wake D E) Out e)
  q-stalled In e true m = (q_bind D E) ((q_write D E) (q_ret D E))
      (λ _. (q_bind D E) ((q_reg D E) EpTxCtrl e _) (λ _. (q_wake D E) In e))
  q-stalled Out e false m = (q_bind D E) ((q_got D E) (ep-cell Out e))
      (λ s. (q_bind D E) ((q_put D E) (put_other D E Out e m (with_tog 0 s)) (q_ret D E))
      (λ _. (q_bind D E) ((q_write D E) (q_ret D E)) (λ _. (q_wake D E) Out e)))
  q-stalled In e false m = (q_bind D E) ((q_got D E) (ep-cell In e))
      (λ s. (q_bind D E) ((q_put D E) (put_other D E In e m (with_tog 0 s)) (q_ret D E))
      (λ _. (q_bind D E) ((q_write D E) (q_ret D E)) (λ _. (q_bind D E) ((q_when D E) ((q_ep D E) In e _ m))
      (λ _. (q_wake D E) In e))))

  -- a halt that is set changes no record
  q-halted : {i : Bool} (d : Dir) (e : ℕ) → LeavesTrack D E false (Off D E) (bus.set_stalled {i = i} d e true)
  q-halted Out e = (q_bind D E) ((q_reg D E) EpRxCtrl e _) (λ _. (q_wake D E) Out e)
  q-halted In e = (q_bind D E) ((q_write D E) (q_ret D E))
      (λ _. (q_bind D E) ((q_reg D E) EpTxCtrl e _) (λ _. (q_wake D E) In e))

  own_out : (e : ℕ) → Own D E Out e → D ≡ Out
  own_out e o = by D refl
    where
      by : (d : Dir) → D ≡ d → D ≡ Out
      by Out g = g
      by In g = absurd (key_apart e E (subst (λ (d : Dir). key Out e ≡ key d E) g o))

  own_in_lem : (e : ℕ) → Own D E In e → D ≡ In
  own_in_lem e o = by D refl
    where
      by : (d : Dir) → D ≡ d → D ≡ In
      by In g = g
      by Out g = absurd (key_apart E e (sym (subst (λ (d : Dir). key In e ≡ key d E) g o)))

  keeps-out : (e : ℕ) (b : Bool) → Own D E Out e → log.finishes D E D b ≡ b
  keeps-out e b o = ap (λ (d : Dir). log.finishes D E d b) (own_out e o)

  ends-in : (e : ℕ) (b : Bool) → Own D E In e → log.finishes D E D b ≡ true
  ends-in e b o = ap (λ (d : Dir). log.finishes D E d b) (own_in_lem e o)

  stays_out : (e : ℕ) (b : Bool) → Own D E Out e → log.stays_armed D E D b ≡ b
  stays_out e b o = ap (λ (d : Dir). log.stays_armed D E d b) (own_out e o)

  ends-armed : (e : ℕ) (b : Bool) → Own D E In e → log.stays_armed D E D b ≡ false
  ends-armed e b o = ap (λ (d : Dir). log.stays_armed D E d b) (own_in_lem e o)

  Clears : Track → {A : Type 0} → Track → A → St → Type 0
  Clears w y _ t = (y ≡ with_phase off w) × FitsAs initial (log.finishes D E D w.through) w.len
      (log.stays_armed D E D w.armed) (view D E t.0)

  clearing : (d : Dir) (e : ℕ) (w : Track) (s : St) → Own D E d e → Whole s → Fits w (view D E s.0)
      → eqb s.0.globals.stage 2 ≡ true → is_on (ep_on s.0 D E).iso ≡ false
      → Follow D E (Clears w) (with_phase off w) (run {i = false} concrete (bus.set_stalled d e false) s)
  unfolding Clears is_on
  clearing Out e w s o k r two i = at_ask tt (λ _ u _ p. at_end (
    refl,
    subst (FitsAs initial (log.finishes D E D w.through) w.len (log.stays_armed D E D w.armed))
        (sym (act-view D E (waken (wake_code Out e ∷ [])) refl u ∙ (p.0 ∙ changed D E Out e (with_tog 0) s o k)))
        (fits-2 D E two refl (r.ready ∙ sym (keeps-out e w.through o)) r.len
        (r.armed ∙ sym (stays_out e w.armed o))),
  ))
  clearing In e w s o k r two i =
      let t = concrete.put (ep-cell In e) (with_tog 0 (concrete.get (ep-cell In e) s)) s in
      let v = changed D E In e (with_tog 0) s o k in
      at_ask tt (λ _ u _ p.
      let b = concrete.put (ep-cell In e) (completed (concrete.get (ep-cell In e) u)) u in
      let x : view D E b.0 ≡ written D E (completed (plain_of (ep_on u.0 D E))) (view D E u.0)
      = changed D E In e completed u o p.1.places in
      let y : FitsAs initial (log.finishes D E D w.through) w.len (log.stays_armed D E D w.armed)
      (view D E b.0) =
      subst (FitsAs initial (log.finishes D E D w.through) w.len (log.stays_armed D E D w.armed)) (sym x)
      (fits-2 D E (ap (λ (q : EpSeen). eqb q.stage 2) (p.0 ∙ v) ∙ two) (ap (λ (q : EpSeen). q.tog) (p.0 ∙ v))
      (sym (ends-in e w.through o)) (ap (λ (q : EpSeen). q.len) (p.0 ∙ v) ∙ r.len)
      (sym (ends-armed e w.armed o))) in
      follow.follow-bind D E {P = Clears w} {f = λ (_ : Unit {0}) (u : St). run {i = false} concrete (wake In e) u}
      (follow.follow-cond D E (not (is_on (concrete.get (ep-cell In e) s).iso))
      (λ _. at_end (refl, y)) (λ q. iso-own D E In e s o i (turned (is_on (concrete.get (ep-cell In e) s).iso) q)))
      (λ z _ a m. at_end {s = concrete.act (waken (wake_code In e ∷ [])) a} (
        m.0,
        subst (FitsAs initial (log.finishes D E D w.through) w.len (log.stays_armed D E D w.armed))
            (sym (act-view D E (waken (wake_code In e ∷ [])) refl a)) m.1,
      )))
    where
      turned : (b : Bool) → not b ≡ false → b ≡ true
      turned true h = refl
      turned false h = differ (sym h)

  pub law-set-stalled : (d : Dir) (e : ℕ) (on : Bool) → Law D E (other (SetStalled d e on))
  unfolding Clears
  law-set-stalled d e true w s r i z =
      quiet-law D E (other (SetStalled d e true)) refl (λ a x. last (own D E d e) (log.cleared D E x) x) (λ _ _. tt)
      ((q_staged D E) 2 ((q_test D E) ((q_resultless D E) (q-halted d e))
      (reading.q-named D E d e ((q_resultless D E) (q-halted d e)))))
      w s r i z
    where
      last : (b : Bool) (x y : Track) → cond (b && false) x y ≡ y
      last true x y = refl
      last false x y = refl
  law-set-stalled d e false w s r i z = by (own D E d e) refl
    where
      nothing : Fits (cond (own D E d e && false) (log.cleared D E (with_phase off w)) (with_phase off w))
          (view D E s.0)
      nothing = rw (and-false (own D E d e)) r

      by : (b : Bool) → own D E d e ≡ b
          → Follow D E (Ends D E (other (SetStalled d e false))) (with_phase off w)
          (run concrete (code (other (SetStalled d e false))) s)
      by false h = quiet-law D E (other (SetStalled d e false)) refl
          (λ a x. not-and D E (own D E d e) (log.ended D E a) (log.cleared D E x) x h) (λ _ _. tt)
          (let q = q-stalled d e false (own-false D E d e h) in
          (q_staged D E) 2 ((q_test D E) ((q_resultless D E) q) (reading.q-named D E d e ((q_resultless D E) q)))) w s r
          i z
      by true h = follow.follow-cond D E (eqb s.0.globals.stage 2)
          (λ two. follow.follow-cond D E (eqb e 0) (λ _. goes two)
          (λ _. follow.follow-cond D E (is_allocated s.0.allocator d e) (λ _. goes two) (λ _. at_end (nothing, tt))))
          (λ _. at_end (nothing, tt))
        where
          goes : eqb s.0.globals.stage 2 ≡ true
              → Follow D E (Ends D E (other (SetStalled d e false))) (with_phase off w)
              (run {i = false} concrete (resultless (bus.set_stalled d e false)) s)
          goes two =
              let a = concrete.act no_wakes s in
              let v = act-view D E no_wakes refl s in
              follow.follow-bind D E {P = Clears w}
              (follow.follow-bind D E {P = Clears w}
              (clearing d e w a (own-true D E d e h) ((act-steady no_wakes refl s).places ∙ z.places)
              (subst (Fits w) (sym v) r) two (ap (λ (q : EpSeen). is_on q.iso) v ∙ i)) (λ y _ t m. at_end m))
              (λ y _ t m. at_end (rw m.0 (rw h m.1), tt))

  -- ---- a bus reset

  q-naks : {i : Bool} (n e : ℕ) → LeavesTrack D E false (Off D E) (bus.nak_all {i = i} n e)
  unfolding bus.nak_all
  q-naks zero e = (q_ret D E)
  q-naks (suc n) e = (q_bind D E) ((q_write D E) (q_ret D E))
      (λ _. (q_bind D E) ((q_write D E) (q_ret D E)) (λ _. q-naks n (suc e)))

  -- the result 2 with DATA0 and nothing to be taken, or another with all as it was
  data Polls (w : Track) (y : Track) (n : ℕ) (t : St) : Type 0 where
    reset : n ≡ 2 → y ≡ with_phase off w → FitsAs initial false w.len false (view D E t.0) → Polls w y n t
    kept : eqb n 2 ≡ false → y ≡ with_phase off w → Fits w (view D E t.0) → Polls w y n t

  types : (s : St) → view D E (concrete.row bus_reset_lem 2 s).1.0 ≡ view D E s.0
  unfolding ep_on
  types s = refl

  configs : (s : St) → view D E (concrete.row bus_reset_lem 3 s).1.0 ≡ view D E s.0
  unfolding ep_on
  configs s = refl

  abbrev Restarted : Track → {A : Type 0} → Track → A → St → Type 0
  Restarted w y _ t = (y ≡ with_phase off w) × FitsAs initial false w.len false (view D E t.0) × Whole t

  rests : (w : Track) (s : St) → Whole s → Fits w (view D E s.0) → eqb s.0.globals.stage 2 ≡ true
      → Follow D E (Restarted w) (with_phase off w) (rows concrete bus_reset_lem 3 (λ t. tree.ends (tt {0}) t) s)
  rests w s k r two = at_ask tt (λ _ b _ p. at_ask tt (λ _ c _ q. at_ask tt (λ _ e _ f.
      let v : view D E e.0 ≡ view D E s.0 = f.0 ∙ (q.0 ∙ (types b ∙ (p.0 ∙ configs s))) in
      let g = reset_fits D E w e.0 f.1.places (subst (Fits w) (sym v) r) (ap (λ (x : EpSeen). eqb x.stage 2) v
      ∙ two) in
      at_ask tt (λ _ h _ l. at_end (refl, subst (FitsAs initial false w.len false) (sym l.0) g, l.1.places)))))

  resets : (w : Track) (s : St) → Whole s → Fits w (view D E s.0) → eqb s.0.globals.stage 2 ≡ true
      → Follow D E (Restarted w) (with_phase off w) (run concrete bus.bus_reset s)
  resets w s k r two = at_ask tt
      (λ _ a1 _ p1. at_ask tt (λ _ a2 _ p2. at_ask tt (λ _ a3 _ p3. follow.follow-bind D E
      ((q-naks 15 1).goes (with_phase off w) a3 (
        refl,
        λ _ _ _ _. refl,
      ) (loose D E p3.1.places)) (λ y _ a m.
      let v : view D E a.0 ≡ view D E s.0 = m.1 ∙ (p3.0 ∙ (p2.0 ∙ p1.0)) in
      subst (λ (u : Track). Follow D E (Restarted w) u (run concrete (bind (row bus_reset_lem) (λ _. wake_all)) a))
      (sym m.0)
      (follow.follow-bind D E {f = λ (_ : Unit {0}) (u : St). run {i = false} concrete wake_all u}
      (rests w a m.2.whole (subst (Fits w) (sym v) r) (ap (λ (x : EpSeen). eqb x.stage 2) v ∙ two))
      (λ y _ t x. at_end {s = concrete.act (waken every_endpoint) t} (
        x.0,
        subst (FitsAs initial false w.len false) (sym (act-view D E (waken every_endpoint) refl t)) x.1,
        (act-steady (waken every_endpoint) refl t).places ∙ x.2,
      )))))))

  pub law_bus_poll : Law D E (other BusPoll)
  law_bus_poll w s r i z = follow.follow-cond D E (eqb s.0.globals.stage 2)
      (λ two.
      let a0 = concrete.act no_wakes s in
      let v0 = act-view D E no_wakes refl s in
      follow.follow-bind D E {P = Polls w} (follow.follow-cond D E (is_on s.0.globals.power)
      (λ _. at_ask tt (λ f a _ p.
      let v : view D E a.0 ≡ view D E s.0 = p.0 ∙ v0 in
      follow.follow-cond D E (bus_rst f)
      (λ _. follow.follow-bind D E (resets w a p.1.places (subst (Fits w) (sym v) r)
      (ap (λ (x : EpSeen). eqb x.stage 2) v ∙ two)) (λ y _ t m.
      let g = with_int_en (with_bus_rst t.0.globals.int_en true) t.0.globals in
      follow.follow-at D E m.0
      (at_ask tt (λ _ u _ q. at_end (reset refl refl (subst (FitsAs initial false w.len false)
      (sym (q.0 ∙ put_globals D E g t)) m.1))))))
      (λ _. follow.follow-cond D E (suspend f)
      (λ _. at_ask tt
      (λ m b _ q. at_ask tt (λ _ c _ l. at_ask tt (λ _ u _ n. at_end
      (kept (not_2 (suspended m)) refl (subst (Fits w) (sym (n.0
      ∙ (put_globals D E (with_int_en (with_suspend c.0.globals.int_en true) c.0.globals) c
      ∙ (l.0 ∙ (q.0 ∙ v))))) r))))))
      (λ _. at_end (kept refl refl (subst (Fits w) (sym v) r))))))
      (λ _. at_end (kept refl refl (subst (Fits w) (sym (put_globals D E (with_power 1 s.0.globals) a0 ∙ v0)) r))))
      (λ y n t p. at_end (after n y t p, tt)))
      (λ _. at_end (r, tt))
    where
      not_2 : (b : Bool) → eqb (cond b 3 4) 2 ≡ false
      not_2 true = refl
      not_2 false = refl

      after : (n : ℕ) (y : Track) (t : St) → Polls w y n t
          → Fits (cond (eqb n 2) (log.renewed D E false y) y) (view D E t.0)
      after n y t (reset h e f) = rw (h, e) f
      after n y t (kept h e f) = rw (h, e) f

  -- ---- before EP0's start

  pub law_allocate : (d : Dir) (kind address maximum interval : ℕ)
      → Law D E (other (Allocate d kind address maximum interval))
  law_allocate d kind address maximum interval w s r i z = follow.follow-cond D E (eqb s.0.globals.stage 1)
      (λ one.
      let t = concrete.act (allocate d kind address maximum interval) s in
      let f = alloc_fits D E w s d kind address maximum interval z.places r (early s.0.globals.stage one) in
      by (allocate_of s.0.allocator kind address maximum d).answer t f.0 f.1)
      (λ _. at_end (r, tt))
    where
      early : (n : ℕ) → eqb n 1 ≡ true → eqb n 2 ≡ false
      early n h = ne_eqb n 2 (λ q. absurd (omega (arith, q, eqb-true n 1 h)))

      q_new : {i : Bool} (e : ℕ) → LeavesTrack D E false (Off D E) (new_endpoint {i = i} d kind maximum e)
      q_new e = (q_bind D E) ((q_write D E) (q_ret D E))
          (λ _. (q_bind D E) ((q_when D E) ((q_hand D E) (q_ret D E))) (λ _. (q_ret D E)))

      by : (a : alloc.Answer) (t : St) → Fits w (view D E t.0) → Whole t
          → Follow D E (Ends D E (other (Allocate d kind address maximum interval)))
          (with_phase off w) (run {i = false} concrete (allocated_as d kind maximum a) t)
      by (variant.Refused n) t f l = at_end (f, tt)
      by (variant.Given e base slots) t f l = follow.follow-more D E
          (((q_operation D E) (q_new {i = false} e)).goes (with_phase off w) t (refl, λ _ _ _ _. refl) (loose D E l))
          (λ y a u m. (rw m.0 (subst (Fits w) (sym m.1) f), tt))

  each : (es : List Endpoint) (w : Track) (s : St) → Whole s → Fits w (view D E s.0)
      → eqb s.0.globals.stage 2 ≡ false
      → Follow D E (λ y _ t. (y ≡ with_phase off w) × Fits w (view D E t.0) × Whole t) (with_phase off w)
      (run {i = false} concrete (allocate_each es) s)
  unfolding allocate_each
  each [] w s l r two = at_end (refl, r, l)
  each (e ∷ es) w s l r two =
      let f = alloc_fits D E w s (direction_of e.address) e.kind e.address e.maximum e.interval l r two in
      each es w (concrete.act (allocate (direction_of e.address) e.kind e.address e.maximum e.interval)
      s)
      f.1 f.0 (ap (λ n. eqb n 2) f.2 ∙ two)

  q_announce : {i : Bool} (d : Dir) (e : ℕ) → LeavesTrack D E false (Off D E) (announce {i = i} d e)
  q_announce d e = (q_bind D E) ((q_got D E) (ep-cell d e))
      (λ s. (q_bind D E) ((q_write D E) (q_ret D E)) (λ _. (q_bind D E) ((q_when D E) ((q_hand D E) (q_ret D E)))
      (λ _. (q_ret D E))))

  q_begins_at : {i : Bool} (d : Dir) (x n e : ℕ) → LeavesTrack D E false (Off D E) (begins_at {i = i} d x n e)
  unfolding begins_at
  q_begins_at d x zero e = (q_ret D E)
  q_begins_at d x (suc n) e = (q_bind D E) ((q_got D E) allocator-cell)
      (λ a. (q_bind D E) ((q_got D E) (ep-cell d e)) (λ s. (q_test D E) (q_ret D E) (q_begins_at d x n (suc e))))

  q_after : {i : Bool} (n total : ℕ) (d : Dir) (e : ℕ)
      → LeavesTrack D E false (Off D E) (announce_after {i = i} n total d e)
  unfolding announce_after
  q_after zero total d e = (q_ret D E)
  q_after (suc n) total d e = (q_bind D E)
      ((q_bind D E) ((q_got D E) allocator-cell) (λ a. (q_bind D E) ((q_got D E) (ep-cell d e)) (λ s. (q_ret D E))))
      (λ x. (q_bind D E) (q_begins_at Out x 15 1) (λ o. (q_test D E)
      ((q_bind D E) (q_begins_at In x 15 1) (λ m. (q_bind D E) (q_announce In m) (λ _. q_after n total In m)))
      ((q_bind D E) (q_announce Out o) (λ _. q_after n total Out o))))

  pub q_announces : {i : Bool} (es : List Endpoint) → LeavesTrack D E false (Off D E) (announce_all {i = i} es)
  q_announces [] = (q_ret D E)
  q_announces (e ∷ es) = (q_bind D E) (q_announce (direction_of e.address) (e.address % 128))
      (λ _. q_after (length es) (suc (length es)) (direction_of e.address) (e.address % 128))

  pub law_allocate_all : (bytes : List ℕ) → Law D E (other (AllocateAll bytes))
  law_allocate_all bytes w s r i z = follow.follow-cond D E (eqb s.0.globals.stage 1)
      (λ one. by (reading_of bytes).answer (early s.0.globals.stage one))
      (λ _. at_end (r, tt))
    where
      early : (n : ℕ) → eqb n 1 ≡ true → eqb n 2 ≡ false
      early n h = ne_eqb n 2 (λ q. absurd (omega (arith, q, eqb-true n 1 h)))

      by : (a : listing.Answer) → eqb s.0.globals.stage 2 ≡ false
          → Follow D E (Ends D E (other (AllocateAll bytes))) (with_phase off w)
          (run {i = false} concrete (allocate_read bytes a) s)
      by (listed.Refused n) two = at_end (r, tt)
      by listed.Listed two = follow.follow-cond D E (eqb (trial_of s.0.allocator (list_of bytes)).refusal 0)
          (λ _. follow.follow-bind D E (each (list_of bytes) w s z.places r two)
          (λ y _ t m. subst (λ (u : Track). Follow D E (Ends D E (other (AllocateAll bytes))) u
          (run {i = false} concrete (operation (announce_all (list_of bytes))) t)) (sym m.0)
          (follow.follow-more D E (((q_operation D E) (q_announces (list_of bytes))).goes (with_phase off w) t (
            refl,
            λ _ _ _ _. refl,
          ) (loose D E m.2)) (λ x a u n. (rw n.0 (subst (Fits w) (sym n.1) m.1), tt)))))
          (λ _. at_end (r, tt))

  pub law_start : (maximum : ℕ) → Law D E (other (Start maximum))
  law_start maximum w s r i z = follow.follow-cond D E (eqb s.0.globals.stage 1)
      (λ _. by (allocate_ep0_of s.0.allocator maximum).answer (concrete.act (allocate0 maximum) s)
      (started D E w maximum s.0 r) (started-places maximum s.0 z.places))
      (λ _. at_end (r, tt))
    where
      q_start : {i : Bool} → LeavesTrack D E false (Off D E) (start_ep0 {i = i} maximum)
      q_start = (q_bind D E) ((q_hand D E) (q_ret D E))
          (λ _. (q_bind D E) ((q_write D E) (q_ret D E))
          (λ _. (q_bind D E) ((q_write D E) (q_ret D E))
          (λ _. (q_bind D E) ((q_write D E) (q_ret D E)) (λ _. (q_write D E) (q_ret D E)))))

      by : (a : alloc.Answer) (t : St) → Fits w (view D E t.0) → Whole t
          → Follow D E (Ends D E (other (Start maximum))) (with_phase off w)
          (run {i = false} concrete (started_as maximum a) t)
      by (variant.Refused n) t f l = at_end (f, tt)
      by (variant.Given e base slots) t f l = follow.follow-more D E
          (((q_resultless D E) (q_start {i = false})).goes (with_phase off w) t (refl, λ _ _ _ _. refl) (loose D E l))
          (λ y a u m. (rw m.0 (subst (Fits w) (sym m.1) f), tt))
