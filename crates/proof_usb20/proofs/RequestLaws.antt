-- Scripts that leave the control pipe's request, whatever they do to EP0: of calls that exempt the log, and of those
-- before EP0's start
use Rattle.std.specs.Prelude.{Bool, true, false, cond, List, [], ◌∷◌, ◌⊎◌, ◌≡◌, refl, ℕ, zero, suc, ◌+◌, ◌*◌, ◌%◌, ◌≤◌, eqb, ltb, leb, length}
use Rattle.std.proofs.Common.{ap, subst, sym, ◌∙◌, arith, eqb-true, ltb-false, leb-false, mul-le-mul_right, suc-mul}
use Rattle.regs.specs.declared.Access.{Access}
use Rattle.regs.specs.declared.Dir.{Dir}
use Rattle.regs.specs.declared.Dir.TheVariants.{Out, In}
use Rattle.regs.specs.declared.Reg.{Reg}
use Rattle.regs.specs.declared.Reg.TheVariants.{Ctrl, EpMaxLen, EpRxCtrl, EpTxCtrl}
use Rattle.regs.specs.ControlWord.{NAK, DATA0, word_of}
use Rattle.state.specs.declared.Allocator.{Allocator}
use Rattle.state.specs.declared.Control.{Control}
use Rattle.state.specs.declared.Globals.{Globals}
use Rattle.state.specs.Fresh.{no_stamps}
use Rattle.state.specs.Kept.{with_int_en}
use Rattle.state.specs.Driver.{Driver, with_on, with_allocator}
use Rattle.alloc.specs.declared.Answer as alloc
use Rattle.alloc.specs.declared.Answer.TheVariants as variant
use Rattle.alloc.specs.declared.Allocation.{Allocation}
use Rattle.alloc.specs.Outcome.{Outcome, six, seven, eight, given}
use Rattle.alloc.proofs.OutcomeLaws.{outcome}
use Rattle.alloc.specs.Alloc.{if, allocate_of, allocate_ep0_of, is_iso, refused, with_next}
use Rattle.descriptor.specs.declared.Endpoint.{Endpoint}
use Rattle.descriptor.specs.declared.Answer as listing
use Rattle.descriptor.specs.declared.Answer.TheVariants as listed
use Rattle.descriptor.specs.Reading.{list_of}
use Rattle.descriptor.specs.Trial.{direction_of}
use Rattle.script.specs.Tree as tree
use Rattle.script.specs.Cells.{EpCore, Cell, Val, ep-cell, globals-cell, allocator-cell}
use Rattle.script.specs.Script.{Script, get, ret, bind, test, when, read_then, write_then, wait_then, get_then}
use Rattle.script.specs.Script.{put_then, act_then}
use Rattle.script.specs.Script.{fetch_then, hand_then, write, Fetch, Act, DmaStep, arrive, send, place, place0}
use Rattle.script.specs.Script.{dma_step_ask}
use Rattle.script.specs.Script.{burst_ask, run, rows, bus_reset_lem, allocate}
use Rattle.script.specs.TransferKinds.{allocates}
use Rattle.script.specs.Statics.{with_tog, completed, modify_reg, modify_ep, modify_int_en, wake}
use Rattle.script.specs.Answers.{Answer, Refused, operation, resultless}
use Rattle.script.specs.Bus as bus
use Rattle.script.specs.Driver.{new_endpoint, allocated_as}
use Rattle.script.specs.AllocateAll.{allocate_each, announce, begins_at, announce_after, announce_all, allocate_read}
use Rattle.script.specs.Calls.{Config, calls}
use Rattle.script_ops.specs.Records.{with_iso_sets, iso_added, with_sets, record_given, sets_given, given_to, allocated_on}
use Rattle.script_ops.specs.Records.{started_with, allocated_ep0}
use Rattle.script_ops.specs.Rings.{St, reset_below, reset_all}
use Rattle.script_ops.specs.Concrete.{concrete}
use Rattle.proof_usb20.specs.Log.{Log, Request, saw}
use Rattle.proof_usb20.specs.Watch.{at_end, at_ask}
use Rattle.proof_usb20.specs.WatchLaws.{watch-bind, watch-more, watch-cond}
use Rattle.proof_usb20.specs.Ep0.{Watch, View, view, Between, Says, Base}
use Rattle.proof_usb20.specs.Ep0Laws.{act-view, hand-view}
use Rattle.proof_usb20.specs.ViewsLaws.{put_globals}
use Rattle.proof_usb20.specs.ExemptLaws.{differ, Kept, same, further, is_ep0_dma, saw-kept}
use Rattle.proof_usb20.proofs.QuietLaws.{Any, elsewhere}

-- the request, the stage, EP0's maximum and its slot, the slot buffer's length
abbrev pub base_of : View → Control × ℕ × ℕ × ℕ × ℕ
base_of x = (x.control, x.stage, x.maximum, x.buffer, x.room)

abbrev pub Left : Log → St → Log → St → Type 0
Left w s x t = Kept w x × (base_of (view t.0) ≡ base_of (view s.0))

pub record Leaves {i : Bool} {A : Type 0} (p : Script i A) : Type 0 where
  pub goes : (w : Log) (s : St) → Watch Between Any {A = A} (λ x _ t. Left w s x t) w (run concrete p s)

pub kept-base : {q q' : Request} {b b' : Bool} {l l' : ℕ} {x y : View} → Base q b l x → q' ≡ q → b' ≡ b → l' ≡ l
    → base_of y ≡ base_of x
    → Base q' b' l' y
kept-base {q = q} {x = x} {y = y} k hq hb hl e = record {
  says = subst (λ (z : Request). Says z y.control) (sym hq) (subst (Says q) (sym (ap (λ z. z.0) e)) k.says);
  started = ap (λ z. eqb z.1 2) e ∙ (k.started ∙ sym hb);
  maximum = λ h. ap (λ z. z.2) e ∙ k.maximum (sym hb ∙ h);
  slot = λ h. ap (λ z. z.3) e ∙ (k.slot (sym hb ∙ h) ∙ sym hl);
  inside = λ h. rw (ap (λ z. z.3) e, ap (λ z. z.4) e) (k.inside (sym hb ∙ h));
}

-- ---- how they are put together

pub l_ret : {i : Bool} {A : Type 0} {a : A} → Leaves (ret {i = i} a)
l_ret = record { goes = λ w s. at_end (same, refl) }

pub l_bind : {i : Bool} {A B : Type 0} {p : Script i A} {f : A → Script i B} → Leaves p → ((a : A) → Leaves (f a))
    → Leaves (bind p f)
l_bind x y = record {
  goes = λ w s. watch-bind (x.goes w s)
      (λ v a t l. watch-more ((y a).goes v t) (λ _ _ _ m. (further l.0 m.0, m.1 ∙ l.1)));
}

pub l_test : {i : Bool} {A : Type 0} {b : Bool} {p q : Script i A} → Leaves p → Leaves q → Leaves (test b p q)
l_test {b = b} x y = record { goes = λ w s. watch-cond b (λ _. x.goes w s) (λ _. y.goes w s) }

asked : {A : Type 0} {q : Access} {s : St} {f : ℕ → St → tree.Out St A} (w : Log) → is_ep0_dma q ≡ false
    → ((v : ℕ) (t : St) → Watch Between Any {A = A} (λ x _ u. Left (saw w q v s.1) t x u) (saw w q v s.1) (f v t))
    → Watch Between Any {A = A} (λ x _ u. Left w s x u) w (tree.asks q s f)
asked {q = q} {s = s} w d g = at_ask tt
    (λ v t _ k. watch-more (g v t) (λ _ _ _ m. (further (saw-kept w q d v s.1) m.0, m.1 ∙ ap base_of k.0)))

onward : {A : Type 0} {o : tree.Out St A} (w : Log) (s t : St) → base_of (view t.0) ≡ base_of (view s.0)
    → Watch Between Any {A = A} (λ x _ u. Left w t x u) w o → Watch Between Any {A = A} (λ x _ u. Left w s x u) w o
onward w s t e x = watch-more x (λ _ _ _ m. (m.0, m.1 ∙ e))

pub l_read : {i : Bool} {A : Type 0} {r : Reg} {e : ℕ} {f : ℕ → Script i A} → ((v : ℕ) → Leaves (f v))
    → Leaves (read_then r e f)
l_read x = record { goes = λ w s. asked w refl (λ v t. (x v).goes _ t) }

pub l_write : {i : Bool} {A : Type 0} {r : Reg} {e v : ℕ} {p : Script i A} → Leaves p → Leaves (write_then r e v p)
l_write x = record { goes = λ w s. asked w refl (λ _ t. x.goes _ t) }

l_wait : {i : Bool} {A : Type 0} {n : ℕ} {p : Script i A} → Leaves p → Leaves (wait_then n p)
l_wait x = record { goes = λ w s. asked w refl (λ _ t. x.goes _ t) }

pub l_get : {i : Bool} {A : Type 0} {c : Cell} {f : Val c → Script i A} → ((v : Val c) → Leaves (f v))
    → Leaves (get_then c f)
l_get {c = c} x = record { goes = λ w s. (x (concrete.get c s)).goes w s }

pub l_fetch : {i : Bool} {A : Type 0} {q : Fetch} {f : List ℕ → Script i A} → ((l : List ℕ) → Leaves (f l))
    → Leaves (fetch_then q f)
l_fetch {q = q} x = record { goes = λ w s. (x (concrete.fetch q s)).goes w s }

l_put : {i : Bool} {A : Type 0} {c : Cell} {v : Val c} {p : Script i A}
    → ((s : St) → base_of (view (concrete.put c v s).0) ≡ base_of (view s.0)) → Leaves p → Leaves (put_then c v p)
l_put {c = c} {v = v} e x = record {
  goes = λ w s. onward w s (concrete.put c v s) (e s) (x.goes w
      (concrete.put c v s));
}

pub l_act : {i : Bool} {A : Type 0} {q : Act} {p : Script i A} → allocates q ≡ false → Leaves p → Leaves (act_then q p)
l_act {q = q} h x = record {
  goes = λ w s. onward w s (concrete.act q s) (ap base_of (act-view q h s)) (x.goes w
      (concrete.act q s));
}

not-ep0 : (q : DmaStep) (x : ℕ) → elsewhere q ≡ true → is_ep0_dma (dma_step_ask q x) ≡ false
not-ep0 (arrive e n) x h = refl
not-ep0 (send e) x h = refl
not-ep0 (place Out e) x h = refl
not-ep0 (place In e) x h = refl
not-ep0 place0 x h = differ h

pub l-hand : {i : Bool} {A : Type 0} {q : DmaStep} {p : Script i A} → elsewhere q ≡ true → Leaves p
    → Leaves (hand_then q p)
l-hand {q = q} h x = record {
  goes = λ w s. onward w s (concrete.hand q s).1 (ap base_of (hand-view q s)) (asked w (not-ep0 q
      (concrete.hand q s).0 h) (λ _ t. x.goes _ t));
}

-- ---- assignments

put-ep : (d : Dir) (e : ℕ) (v : EpCore) (s : St) → base_of (view (concrete.put (ep-cell d e) v s).0) ≡ base_of (view
    s.0)
unfolding with_on
put-ep d e v s = refl

pub l-got : {i : Bool} (c : Cell) → Leaves (get {i = i} c)
l-got c = l_get (λ _. l_ret)

pub l-when : {i : Bool} {b : Bool} {p : Script i Unit} → Leaves p → Leaves (when b p)
l-when x = l_test x l_ret

pub l-reg : {i : Bool} (r : Reg) (e : ℕ) (f : ℕ → ℕ) → Leaves (modify_reg {i = i} r e f)
l-reg r e f = l_bind (l_read (λ _. l_ret)) (λ v. l_write l_ret)

l-ep : {i : Bool} (d : Dir) (e : ℕ) (f : EpCore → EpCore) → Leaves (modify_ep {i = i} d e f)
l-ep d e f = l_bind (l-got (ep-cell d e)) (λ p. l_put (put-ep d e (f p)) l_ret)

pub l-wake : {i : Bool} (d : Dir) (e : ℕ) → Leaves (wake {i = i} d e)
l-wake d e = l_act refl l_ret

pub l-int-en : {i : Bool} (f : ℕ → ℕ) → Leaves (modify_int_en {i = i} f)
l-int-en f = l_bind (l-got globals-cell) (λ g. l_bind (l_put (λ s. ap base_of (put_globals (with_int_en (f
    g.int_en) g) s)) l_ret) (λ _. l_write l_ret))

pub l-operation : {i : Bool} {p : Script i ℕ} → Leaves p → Leaves (operation p)
l-operation x = l_bind (l_act refl l_ret) (λ _. l_bind x (λ n. l_bind (l_fetch (λ _. l_ret)) (λ w. l_ret)))

pub l-resultless : {i : Bool} {p : Script i Unit} → Leaves p → Leaves (resultless p)
l-resultless x = l-operation (l_bind x (λ _. l_ret))

-- ---- a halt of EP0

pub l-stalled : {i : Bool} (d : Dir) (e : ℕ) (on : Bool) → Leaves (bus.set_stalled {i = i} d e on)
l-stalled Out e true = l_bind (l-reg _ e _) (λ _. l-wake Out e)
l-stalled In e true = l_bind (l_write l_ret) (λ _. l_bind (l-reg _ e _) (λ _. l-wake In e))
l-stalled Out e false = l_bind (l-got (ep-cell Out e))
    (λ s. l_bind (l_put (put-ep Out e (with_tog 0 s)) l_ret) (λ _. l_bind (l_write l_ret) (λ _. l-wake Out e)))
l-stalled In e false = l_bind (l-got (ep-cell In e))
    (λ s. l_bind (l_put (put-ep In e (with_tog 0 s)) l_ret) (λ _. l_bind (l_write l_ret) (λ _. l_bind (l-when
    (l-ep In e completed)) (λ _. l-wake In e))))

-- ---- a bus reset

l-naks : {i : Bool} (n e : ℕ) → Leaves (bus.nak_all {i = i} n e)
unfolding bus.nak_all
l-naks zero e = l_ret
l-naks (suc n) e = l_bind (l_write l_ret) (λ _. l_bind (l_write l_ret) (λ _. l-naks n (suc e)))

abbrev Parts : Type 0
Parts = Control × ℕ × ℕ × ℕ × ℕ

abbrev parts_of : Driver → Parts
parts_of d = (
  d.control,
  d.globals.stage,
  d.globals.ep0_max,
  d.globals.ep0_buf,
  d.allocator.count * d.allocator.size,
)

reset-below : (n : ℕ) (d : Driver) → parts_of (reset_below n d) ≡ parts_of d
unfolding reset_below with_on
reset-below zero d = refl
reset-below (suc n) d = reset-below n d

reset-all : (d : Driver) → parts_of (reset_all d) ≡ parts_of d
unfolding reset_all no_stamps
reset-all d = reset-below 16 d

resets-base : (n : ℕ) (s : St) → base_of (view (concrete.row bus_reset_lem n s).1.0) ≡ base_of (view s.0)
resets-base zero s = reset-all s.0
resets-base (suc zero) s = refl
resets-base (suc (suc zero)) s = refl
resets-base (suc (suc (suc k))) s = refl

reset-asks : (n x : ℕ) → is_ep0_dma (burst_ask bus_reset_lem (suc n) x) ≡ false
reset-asks zero x = refl
reset-asks (suc zero) x = refl
reset-asks (suc (suc n)) x = refl

in_row : (n : ℕ) (w : Log) (s : St) → Watch Between Any (λ x _ t. Left w s x t) w (rows concrete bus_reset_lem n
    (λ t. tree.ends (tt {0}) t) s)
in_row zero w s = onward w s (concrete.row bus_reset_lem zero s).1 (resets-base zero s) (asked w refl (λ _ t. at_end
    (same, refl)))
in_row (suc n) w s = onward w s (concrete.row bus_reset_lem (suc n) s).1 (resets-base (suc n) s) (asked w (reset-asks n
    (concrete.row bus_reset_lem (suc n) s).0) (λ _ t. in_row n _ t))

pub l-reset : Leaves bus.bus_reset
l-reset = l_bind (l_write l_ret) (λ _. l_bind (l_write l_ret) (λ _. l_bind (l_write l_ret) (λ _. l_bind (l-naks 15 1)
    (λ _. l_bind (record { goes = λ w s. in_row 3 w s }) (λ _. l_act refl l_ret)))))

-- ---- allocations

sets-base : (dir : Dir) (kind interval e : ℕ) (g : Globals)
    → ((with_sets dir kind interval e g).stage ≡ g.stage) × ((with_sets dir kind interval e g).ep0_max ≡ g.ep0_max)
    × ((with_sets dir kind interval e g).ep0_buf ≡ g.ep0_buf)
unfolding with_sets
sets-base dir kind interval e g = by (is_iso kind) dir
  where
    often : (b : Bool) (n : ℕ) → ((cond b (with_iso_sets g.iso_out_eps n g) g).stage ≡ g.stage)
        × ((cond b (with_iso_sets g.iso_out_eps n g) g).ep0_max ≡ g.ep0_max)
        × ((cond b (with_iso_sets g.iso_out_eps n g) g).ep0_buf ≡ g.ep0_buf)
    often true n = (refl, refl, refl)
    often false n = (refl, refl, refl)

    by : (i : Bool) (dir : Dir) → ((cond i (iso_added dir interval e g) g).stage ≡ g.stage)
        × ((cond i (iso_added dir interval e g) g).ep0_max ≡ g.ep0_max)
        × ((cond i (iso_added dir interval e g) g).ep0_buf ≡ g.ep0_buf)
    by false dir = (refl, refl, refl)
    by true Out = (refl, refl, refl)
    by true In = often (ltb interval 2) _

given-base : (dir : Dir) (kind maximum interval : ℕ) (a : alloc.Answer) (d : Driver)
    → parts_of (given_to dir kind maximum interval a d) ≡ parts_of d
unfolding given_to sets_given record_given with_on
given-base dir kind maximum interval (variant.Refused n) d = refl
given-base dir kind maximum interval (variant.Given e base slots) d =
    let z = sets-base dir kind interval e d.globals in λ i. (
      d.control,
      z.0 i,
      z.1 i,
      z.2 i,
      d.allocator.count * d.allocator.size,
    )

-- an allocation leaves the count and the size of the buffers
pub same-room : {a : Allocator} {kind address maximum : ℕ} {dir : Dir} {z : Allocation}
    → Outcome a kind address maximum dir z → z.after.count * z.after.size ≡ a.count * a.size
same-room (six h) = refl
same-room (seven h q) = refl
same-room (eight e h q l) = refl
same-room (given e base n b h q g) = rw (g.number.same_count, g.number.same_size) refl

allocated-base : (d : Driver) (dir : Dir) (kind address maximum interval : ℕ)
    → parts_of (allocated_on d dir kind address maximum interval) ≡ parts_of d
unfolding allocated_on
allocated-base d dir kind address maximum interval =
    given-base dir kind maximum interval (allocate_of d.allocator kind address maximum dir).answer
    (with_allocator d (allocate_of d.allocator kind address maximum dir).after)
    ∙ ap (λ (n : ℕ). (d.control, d.globals.stage, d.globals.ep0_max, d.globals.ep0_buf, n))
    (same-room (outcome d.allocator kind address maximum dir))

l_allocate : {i : Bool} {A : Type 0} {p : Script i A} (d : Dir) (kind address maximum interval : ℕ) → Leaves p
    → Leaves (act_then (allocate d kind address maximum interval) p)
l_allocate d kind address maximum interval x = record {
  goes = λ w s. onward w s (concrete.act (allocate d kind address maximum interval) s) (seen s) (x.goes w _);
}
  where
    seen : (s : St) → base_of (view (concrete.act (allocate d kind address maximum interval) s).0) ≡ base_of (view
        s.0)
    seen s = allocated-base s.0 d kind address maximum interval

l-new : {i : Bool} (d : Dir) (kind maximum e : ℕ) → Leaves (new_endpoint {i = i} d kind maximum e)
l-new d kind maximum e = l_bind (l_write l_ret) (λ _. l_bind (l-when (l-hand refl l_ret)) (λ _. l_ret))

pub l-allocated : {i : Bool} (d : Dir) (kind maximum : ℕ) (a : alloc.Answer)
    → Leaves (allocated_as {i = i} d kind maximum a)
l-allocated d kind maximum (variant.Refused n) = l_ret
l-allocated d kind maximum (variant.Given e base slots) = l-operation (l-new d kind maximum e)

pub l-allocates : {i : Bool} (d : Dir) (kind address maximum interval : ℕ)
    → Leaves {i = i} (bind (get allocator-cell) (λ a. bind (act_then (allocate d kind address maximum interval) (ret
    (tt {0})))
    (λ _. allocated_as d kind maximum (allocate_of a kind address maximum d).answer)))
l-allocates d kind address maximum interval = l_bind (l-got allocator-cell)
    (λ a. l_bind (l_allocate d kind address maximum interval l_ret) (λ _. l-allocated d kind maximum
    (allocate_of a kind address maximum d).answer))

l-each : {i : Bool} (es : List Endpoint) → Leaves (allocate_each {i = i} es)
unfolding allocate_each
l-each [] = l_ret
l-each (e ∷ es) = l_bind (l_allocate (direction_of e.address) e.kind e.address e.maximum
    e.interval l_ret) (λ _. l-each es)

l-announce : {i : Bool} (d : Dir) (e : ℕ) → Leaves (announce {i = i} d e)
l-announce d e = l_bind (l-got (ep-cell d e)) (λ s. l-new d s.kind s.max_len e)

l-begins-at : {i : Bool} (d : Dir) (x n e : ℕ) → Leaves (begins_at {i = i} d x n e)
unfolding begins_at
l-begins-at d x zero e = l_ret
l-begins-at d x (suc n) e = l_bind (l-got allocator-cell)
    (λ a. l_bind (l-got (ep-cell d e)) (λ s. l_test l_ret (l-begins-at d x n (suc e))))

l-after : {i : Bool} (n total : ℕ) (d : Dir) (e : ℕ) → Leaves (announce_after {i = i} n total d e)
unfolding announce_after
l-after zero total d e = l_ret
l-after (suc n) total d e = l_bind (l_bind (l-got allocator-cell) (λ a. l_bind (l-got (ep-cell d e)) (λ s. l_ret)))
    (λ x. l_bind (l-begins-at Out x 15 1) (λ o. l_test
    (l_bind (l-begins-at In x 15 1) (λ m. l_bind (l-announce In m) (λ _. l-after n total In m)))
    (l_bind (l-announce Out o) (λ _. l-after n total Out o))))

l-announces : {i : Bool} (es : List Endpoint) → Leaves (announce_all {i = i} es)
l-announces [] = l_ret
l-announces (e ∷ es) = l_bind (l-announce (direction_of e.address) (e.address % 128))
    (λ _. l-after (length es) (suc (length es)) (direction_of e.address) (e.address % 128))

pub l-listed : {i : Bool} (bytes : List ℕ) (a : listing.Answer) → Leaves (allocate_read {i = i} bytes a)
l-listed bytes (listed.Refused n) = l_ret
l-listed bytes listed.Listed = l_bind (l-got allocator-cell)
    (λ a. l_test (l_bind (l-each (list_of bytes)) (λ _. l-operation (l-announces (list_of bytes)))) l_ret)

-- ---- EP0's start

-- the count and the size of the buffers stay
pub ep0-room : (a : Allocator) (maximum : ℕ)
    → (allocate_ep0_of a maximum).after.count * (allocate_ep0_of a maximum).after.size ≡ a.count * a.size
unfolding allocate_ep0_of with_next
ep0-room a maximum = by (eqb maximum 64) (ltb a.size maximum) (leb a.count a.next)
  where
    by : (p q r : Bool)
        → let z = if p (if q (refused 6 a) (if r (refused 8 a)
        (record { answer = variant.Given 0 (a.next * a.size) 1; after = with_next a (a.next + 1) })))
        (refused 22 a) in
        z.after.count * z.after.size ≡ a.count * a.size
    by true true r = refl
    by true false true = refl
    by true false false = refl
    by false q r = refl

-- refused, all as it was; given, the stage is 2 and the maximum 64
pub started-base : (d : Driver) (maximum n : ℕ) → (allocate_ep0_of d.allocator maximum).answer ≡ variant.Refused n
    → base_of (view (allocated_ep0 d maximum)) ≡ base_of (view d)
unfolding allocated_ep0 started_with
started-base d maximum n h = rw (h, ep0-room d.allocator maximum) refl

pub started-stage : (d : Driver) (maximum e base slots : ℕ) → (allocate_ep0_of
    d.allocator maximum).answer ≡ variant.Given e base slots
    → base_of (view (allocated_ep0 d maximum))
    ≡ (d.control, 2, maximum, base, d.allocator.count * d.allocator.size)
unfolding allocated_ep0 started_with
started-stage d maximum e base slots h = rw (h, ep0-room d.allocator maximum) refl

-- what comes after EP0's slot is handed out
abbrev pub start_rest : {i : Bool} → ℕ → Script i Unit
start_rest maximum = bind (write EpMaxLen 0 maximum) (λ _. bind (write EpRxCtrl 0 (word_of NAK DATA0 false))
    (λ _. bind (write EpTxCtrl 0 (word_of NAK DATA0 false)) (λ _. write EpMaxLen 0 64)))

pub l-start-rest : {i : Bool} (maximum : ℕ) → Leaves (start_rest {i = i} maximum)
l-start-rest maximum = l_bind (l_write l_ret) (λ _. l_bind (l_write l_ret) (λ _. l_bind (l_write l_ret)
    (λ _. l_write l_ret)))

pub given-64 : (a : Allocator) (maximum e base slots : ℕ) → (allocate_ep0_of a maximum).answer ≡ variant.Given e base slots
    → maximum ≡ 64
unfolding allocate_ep0_of
given-64 a maximum e base slots h = by (eqb maximum 64) refl h
  where
    differs : {X : Type 0} (n : ℕ) → ◌≡◌ {A = alloc.Answer} (variant.Refused n) (variant.Given e base slots) → X
    differs n q = absurd (subst refusal q tt)
      where
        refusal : alloc.Answer → Type 0
        refusal (variant.Refused n) = Unit {0}
        refusal (variant.Given e base slots) = ⊥

    by : (b : Bool) → eqb maximum 64 ≡ b
        → (if b (if (ltb a.size maximum) (refused 6 a) (if (leb a.count a.next) (refused 8 a)
        (record { answer = variant.Given 0 (a.next * a.size) 1; after = with_next a (a.next + 1) })))
        (refused 22 a)).answer
        ≡ variant.Given e base slots
        → maximum ≡ 64
    by true q h = eqb-true maximum 64 q
    by false q h = differs 22 h

-- and its slot lies in the slot buffer
pub given_inside : (a : Allocator) (maximum e base slots : ℕ)
    → (allocate_ep0_of a maximum).answer ≡ variant.Given e base slots → base + 64 ≤ a.count * a.size
unfolding allocate_ep0_of
given_inside a maximum e base slots h = by (eqb maximum 64) (ltb a.size maximum) (leb a.count a.next) refl refl
    refl h
  where
    refusal : alloc.Answer → Type 0
    refusal (variant.Refused n) = Unit {0}
    refusal (variant.Given e base slots) = ⊥

    differs : {X : Type 0} (n : ℕ) → ◌≡◌ {A = alloc.Answer} (variant.Refused n) (variant.Given e base slots) → X
    differs n q = absurd (subst refusal q tt)

    base_in : alloc.Answer → ℕ
    base_in (variant.Refused n) = 0
    base_in (variant.Given e base slots) = base

    by : (p q r : Bool) → eqb maximum 64 ≡ p → ltb a.size maximum ≡ q → leb a.count a.next ≡ r
        → (if p (if q (refused 6 a) (if r (refused 8 a)
        (record { answer = variant.Given 0 (a.next * a.size) 1; after = with_next a (a.next + 1) })))
        (refused 22 a)).answer
        ≡ variant.Given e base slots
        → base + 64 ≤ a.count * a.size
    by true true r hp hq hr z = differs 6 z
    by true false true hp hq hr z = differs 8 z
    by true false false hp hq hr z =
        let at : a.next * a.size ≡ base = ap base_in z in
        let low = leb-false a.count a.next hr in
        let big = ltb-false a.size maximum hq in
        let all : suc a.next * a.size ≤ a.count * a.size = mul-le-mul_right a.size low in
        let one : suc a.next * a.size ≡ a.next * a.size + a.size = suc-mul a.next a.size in
        omega (arith, at, big, all, one, eqb-true maximum 64 hp)
    by false q r hp hq hr z = differs 22 z

-- a start that is given
pub given-start : {q q' : Request} {b : Bool} {l l' : ℕ} {x y : View} {c : Control} {maximum slot room : ℕ}
    → Base q b l x
    → q' ≡ q → x.control ≡ c
    → base_of y ≡ (c, 2, maximum, slot, room) → maximum ≡ 64 → l' ≡ slot → slot + 64 ≤ room → Base q' true l' y
given-start {q = q} {y = y} k hq hc e m hl n = record {
  says = subst (λ (z : Request). Says z y.control) (sym hq) (subst (Says q) (hc ∙ sym (ap (λ z. z.0) e)) k.says);
  started = ap (λ z. eqb z.1 2) e;
  maximum = λ _. ap (λ z. z.2) e ∙ m;
  slot = λ _. ap (λ z. z.3) e ∙ sym hl;
  inside = λ _. rw (ap (λ z. z.3) e, ap (λ z. z.4) e) n;
}

-- ---- start-up's own script

pub law-new : (c : Config) → Leaves (calls.starts c)
law-new c = l-resultless (l_bind (l_write l_ret) (λ _. l_bind (l_wait l_ret) (λ _. l_bind (l-reg Ctrl 0 _)
    (λ _. l_bind (l_write l_ret) (λ _. l_bind (l_write l_ret) (λ _. l-int-en _))))))
