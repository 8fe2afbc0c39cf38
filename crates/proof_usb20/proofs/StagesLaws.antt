-- The laws of the control pipe's begins: each leaves EP0 armed as the pipe says, or is refused and leaves all as it was
use Rattle.std.specs.Prelude.{Bool, false, cond, List, ◌⊎◌, ◌≡◌, refl, ℕ, ◌+◌, ◌%◌, ◌≤◌, eqb}
use Rattle.std.proofs.Math.Bool.{true}
use Rattle.std.proofs.Common.{inl, inr, subst, ◌∙◌, arith}
use Rattle.std.proofs.Math.Path.{ap, sym}
use Rattle.std.proofs.Math.Dec.{ltb}
use Rattle.std.proofs.Math.ListN.{length}
use borrow.Author.Tests.{ltb-false}
use Rattle.ring.specs.Copies.{bytes_at, copied}
use Rattle.ring.proofs.MarksSlots.{copied-bytes}
use Rattle.regs.specs.declared.Access.{Access}
use Rattle.regs.specs.declared.Dir.TheVariants.{Out, In}
use Rattle.regs.specs.ControlWord.{ACK, DATA1, word_of, status}
use Rattle.state.specs.declared.Control.{Control}
use Rattle.script.specs.Tree as tree
use Rattle.script.specs.Tree.{ends}
use Rattle.script.specs.Answers.{Answer, Refused}
use Rattle.script.specs.Cells.{EpCore, ep-cell, control-cell}
use Rattle.script.specs.Machine.{Buf}
use Rattle.script.specs.Script.{run, no_wakes, fill0}
use Rattle.script_ops.specs.Rings.{filled_ep0}
use Rattle.script.specs.Statics.{is_on, with_ready, with_armed, with_len}
use Rattle.script.specs.Control.{SETUP, DATA-OUT, ACCEPT, request_of, empty_control, data_in_of, address_of}
use Rattle.script.specs.Calls.{slotted, other, BeginDataIn, BeginSetup, BeginAccept, BeginReject, BeginDataOut}
use Rattle.script.specs.Calls.{BeginAcceptSetAddress, code}
use Rattle.script_ops.specs.Rings.{St}
use Rattle.script_ops.specs.Concrete.{concrete}
use Rattle.proof_book.specs.TransferKindsLaws.{put-steady, act-steady}
use Rattle.proof_usb20.specs.Pipe.{Pipe, Awaited, nothing, keeps, sets}
use Rattle.proof_usb20.specs.Log.{Ep0Word, written_as, word_read_as, Request, Log, afresh}
use Rattle.proof_usb20.specs.Log.{Untaken, SetupPacket}
use Rattle.proof_usb20.specs.Log.{unstarted, ended, misfits}
use Rattle.proof_usb20.specs.Watch as watch
use Rattle.proof_usb20.specs.Watch.{at_end, at_ask, Fitted, AtFirst, stops, goes, SparedAfter, no_more, then}
use Rattle.proof_usb20.specs.WatchLaws.{watch-cond, first-cond, after_cond}
use Rattle.proof_usb20.specs.Ep0.{Watch, View, view, Between, unstaged, Rel, Says, Base, Line, Law}
use Rattle.proof_usb20.specs.ExemptLaws.{differ}
use Rattle.proof_usb20.specs.ViewsLaws.{rec, out_is_set, set_in, set_control, put-out, put_in, put_control}
use Rattle.proof_usb20.specs.Ep0Laws.{act-view}
use Rattle.proof_usb20.proofs.FittingLaws.{on, off, acked-ack, acked-one, status-acks, status-one, Fit}
use Rattle.proof_usb20.proofs.FittingLaws.{fits-takes-first, fits-takes-next, fits-gives-last-first}
use Rattle.proof_usb20.proofs.FittingLaws.{fits-gives-last-next, fits-gives-first, fits-gives-next, fits-confirms}
use Rattle.proof_usb20.proofs.FittingLaws.{fits-rejects}

-- ---- states

-- an endpoint's record is changed: EP0's own
abbrev pub out_with : (EpCore → EpCore) → St → St
out_with f s = concrete.put (ep-cell Out 0) (f (concrete.get (ep-cell Out 0) s)) s

abbrev pub in_with : (EpCore → EpCore) → St → St
in_with f s = concrete.put (ep-cell In 0) (f (concrete.get (ep-cell In 0) s)) s

abbrev pub Whole : St → Type 0
Whole s = length s.0.eps ≡ 32

pub out-view : (f : EpCore → EpCore) (s : St) → Whole s
    → view (out_with f s).0 ≡ out_is_set (rec (f (concrete.get (ep-cell Out 0) s))) (view s.0)
out-view f s h = put-out (f (concrete.get (ep-cell Out 0) s)) s h

pub in-view : (f : EpCore → EpCore) (s : St) → Whole s
    → view (in_with f s).0 ≡ set_in (rec (f (concrete.get (ep-cell In 0) s))) (view s.0)
in-view f s h = put_in (f (concrete.get (ep-cell In 0) s)) s h

pub out-whole : (f : EpCore → EpCore) (s : St) → Whole s → Whole (out_with f s)
out-whole f s h = (put-steady (ep-cell Out 0) (f (concrete.get (ep-cell Out 0) s)) s).places ∙ h

pub in_whole : (f : EpCore → EpCore) (s : St) → Whole s → Whole (in_with f s)
in_whole f s h = (put-steady (ep-cell In 0) (f (concrete.get (ep-cell In 0) s)) s).places ∙ h

-- a request is noted, and an operation begins
abbrev pub noted : Control → St → St
noted c s = concrete.act no_wakes (concrete.put control-cell c s)

pub noted-view : (c : Control) (s : St) → view (noted c s).0 ≡ set_control c (view s.0)
noted-view c s = act-view no_wakes refl (concrete.put control-cell c s) ∙ put_control c s

pub noted-whole : (c : Control) (s : St) → Whole s → Whole (noted c s)
noted-whole c s h = (act-steady no_wakes refl (concrete.put control-cell c s)).places
    ∙ ((put-steady control-cell c s).places ∙ h)

pub moved : {q : Request} {b ex : Bool} {m : ℕ} {rx tx : Ep0Word} {l g : ℕ} {p : Pipe} {a : Awaited} {u : SetupPacket}
    {x y : View} → y ≡ x
    → Line q b m ex rx tx l g p a u x → Line q b m ex rx tx l g p a u y
moved {q = q} {b = b} {ex = ex} {m = m} {rx = rx} {tx = tx} {l = l} {g = g} {p = p} {a = a} {u = u} e r =
    subst (Line q b m ex rx tx l g p a u) (sym e) r

-- where the log is not exempt
pub fit_of : {ex : Bool} {X : Type 0} → (ex ≡ true) ⊎ X → ex ≡ false → X
fit_of (inl e) h = differ (sym h ∙ e)
fit_of (inr x) h = x

-- another request
pub requested : {q q' : Request} {b : Bool} {l : ℕ} {x y : View} → Base q b l x → y.stage ≡ x.stage
    → y.maximum ≡ x.maximum
    → y.buffer ≡ x.buffer → y.room ≡ x.room → Says q' y.control → Base q' b l y
requested k s m g n c = record {
  says = c;
  started = ap (λ n. eqb n 2) s ∙ k.started;
  maximum = λ h. m ∙ k.maximum h;
  slot = λ h. g ∙ k.slot h;
  inside = λ h. rw (g, n) (k.inside h);
}

-- ---- the rows before a stage

pub not-started : {q : Request} {b : Bool} {l : ℕ} {x : View} → Base q b l x → eqb x.stage 2 ≡ false → b ≡ false
not-started k h = sym k.started ∙ h

pub untaken-by : (w : Log) (x : View) → Fit w x → is_on x.setup_ready ≡ true → Untaken true w
untaken-by w x f g h = sym (fit_of f h).setup.there ∙ g

above : {q : Request} {b : Bool} {l : ℕ} {x : View} (n : ℕ) → Base q b l x → eqb x.stage 2 ≡ true
    → ltb x.maximum n ≡ true
    → ltb 64 n ≡ true
above n k t h = ap (λ m. ltb m n) (sym (k.maximum (sym k.started ∙ t))) ∙ h

module _ {P : Log → Answer → St → Type 0} {May : Log → Access → Type 0} {w : Log} (s : St)
    {o : tree.Out St Answer} where
  -- 4 and 9
  past-setup : (eqb s.0.globals.stage 2 ≡ false → P w (Refused 4) s)
      → (is_on s.0.globals.setup_ready ≡ true → P w (Refused 9) s) → Watch Between May P w o
      → Watch Between May P w (cond (eqb s.0.globals.stage 2)
      (cond (is_on s.0.globals.setup_ready) (ends (Refused 9) s) o) (ends (Refused 4) s))
  past-setup a b x = watch-cond (eqb s.0.globals.stage 2)
      (λ _. watch-cond (is_on s.0.globals.setup_ready) (λ g. at_end (b g)) (λ _. x)) (λ q. at_end (a q))

  -- 4, 10 and 9
  past-rows : (n : ℕ) → (eqb s.0.globals.stage 2 ≡ false → P w (Refused 4) s)
      → (eqb s.0.globals.stage 2 ≡ true → ltb s.0.globals.ep0_max n ≡ true → P w (Refused 10) s)
      → (is_on s.0.globals.setup_ready ≡ true → P w (Refused 9) s) → Watch Between May P w o
      → Watch Between May P w (cond (eqb s.0.globals.stage 2)
      (cond (ltb s.0.globals.ep0_max n) (ends (Refused 10) s)
      (cond (is_on s.0.globals.setup_ready) (ends (Refused 9) s) o)) (ends (Refused 4) s))
  past-rows n a b c x = watch-cond (eqb s.0.globals.stage 2)
      (λ t. watch-cond (ltb s.0.globals.ep0_max n) (λ l. at_end (b t l))
      (λ _. watch-cond (is_on s.0.globals.setup_ready) (λ g. at_end (c g)) (λ _. x))) (λ q. at_end (a q))

-- ---- data_out

-- the state before its access
armed-out : (n : ℕ) (s : St) → Whole s
    → view (out_with (λ p. with_armed 1 (with_len n (with_ready 0 p))) (noted (request_of DATA-OUT n) s)).0
    ≡ out_is_set (record { ready = 0; armed = 1; len = n }) (set_control (request_of DATA-OUT n) (view s.0))
armed-out n s h = out-view (λ p. with_armed 1 (with_len n (with_ready 0 p))) (noted (request_of DATA-OUT n) s)
    (noted-whole (request_of DATA-OUT n) s h)
    ∙ ap (out_is_set (record { ready = 0; armed = 1; len = n })) (noted-view (request_of DATA-OUT n) s)

abbrev data1 : Ep0Word → Ep0Word
data1 c = written_as (word_of ACK DATA1 false) c

pub law-data-out : (n : ℕ) (first : Bool) → Law (other (BeginDataOut n first))
law-data-out n true w s (b, f) z =
    past-rows s n (λ q. ((b, f), unstarted (not-started b q))) (λ t l. ((b, f), misfits (above n b t l)))
    (λ g. ((b, f), ended (untaken-by w (view s.0) f g)))
    (at_ask tt (λ v t _ k. at_end (
      moved (k.0 ∙ armed-out n s z.places) (
        requested b refl refl refl refl (refl, refl),
        fits-takes-first (afresh s.1 w) (view s.0) n (data1
            w.rx) acked-ack acked-one f,
      ),
      tt,
    )))
law-data-out n false w s (b, f) z =
    past-rows s n (λ q. ((b, f), unstarted (not-started b q))) (λ t l. ((b, f), misfits (above n b t l)))
    (λ g. ((b, f), ended (untaken-by w (view s.0) f g)))
    (at_ask tt (λ v t _ k. at_ask tt (λ _ u _ l. at_end (
      moved (l.0 ∙ (k.0 ∙ armed-out n s z.places))
          (requested b refl refl refl refl (refl, refl), fits-takes-next (afresh s.1 w) (view s.0) n v f),
      tt,
    ))))

-- ---- data_in

-- the last packet: before the closing OUT's access, and the next
closing : (n : ℕ) (bytes : List ℕ) (s : St) → Whole s
    → let x = concrete.act (fill0 bytes) (noted (data_in_of n 1 1) s) in
    view (out_with (λ p. with_len 0 (with_ready 0 p)) (in_with (with_ready 0) x)).0
    ≡ out_is_set (record { ready = 0; armed = (view s.0).out.armed; len = 0 })
    (set_in (record { ready = 0; armed = (view s.0).inn.armed; len = (view s.0).inn.len }) (set_control
    (data_in_of n 1 1) (view s.0)))
closing n bytes s h =
    let c = data_in_of n 1 1 in
    let x = concrete.act (fill0 bytes) (noted c s) in
    let hx = (act-steady (fill0 bytes) refl (noted c s)).places ∙ noted-whole c s h in
    let vx = act-view (fill0 bytes) refl (noted c s) ∙ noted-view c s in
    out-view (λ p. with_len 0 (with_ready 0 p)) (in_with (with_ready 0) x) (in_whole (with_ready 0) x hx)
    ∙ ap (λ (y : View). out_is_set (record { ready = 0; armed = y.out.armed; len = 0 }) y)
    (in-view (with_ready 0) x hx
    ∙ ap (λ (y : View). set_in (record { ready = 0; armed = y.inn.armed; len = y.inn.len }) y) vx)

-- armed after it
armed-in : (t : St) (y : View) → Whole t → view t.0 ≡ y
    → view (in_with (with_armed 1) t).0 ≡ set_in (record { ready = y.inn.ready; armed = 1; len = y.inn.len }) y
armed-in t y h e = in-view (with_armed 1) t h
    ∙ ap (λ (y : View). set_in (record { ready = y.inn.ready; armed = 1; len = y.inn.len }) y) e

-- another one
opening : (n : ℕ) (bytes : List ℕ) (s : St) → Whole s
    → let x = concrete.act (fill0 bytes) (noted (data_in_of n 0 1) s) in
    view (in_with (with_armed 1) (in_with (with_ready 0) x)).0
    ≡ set_in (record { ready = 0; armed = 1; len = (view s.0).inn.len }) (set_control (data_in_of n 0 1) (view s.0))
opening n bytes s h =
    let c = data_in_of n 0 1 in
    let x = concrete.act (fill0 bytes) (noted c s) in
    let hx = (act-steady (fill0 bytes) refl (noted c s)).places ∙ noted-whole c s h in
    let vx = act-view (fill0 bytes) refl (noted c s) ∙ noted-view c s in
    in-view (with_armed 1) (in_with (with_ready 0) x) (in_whole (with_ready 0) x hx)
    ∙ ap (λ (y : View). set_in (record { ready = y.inn.ready; armed = 1; len = y.inn.len }) y)
    (in-view (with_ready 0) x hx
    ∙ ap (λ (y : View). set_in (record { ready = 0; armed = y.inn.armed; len = y.inn.len }) y) vx)

pub law-data-in : (bytes : List ℕ) (first last : Bool) → Law (slotted (BeginDataIn bytes first last))
law-data-in bytes true true w s (b, f) z =
    past-rows s (length bytes) (λ q. ((b, f), unstarted (not-started b q)))
    (λ t l. ((b, f), misfits (above (length bytes) b t l))) (λ g. ((b, f), ended (untaken-by w (view s.0) f g)))
    (at_ask tt (λ _ t _ k. at_ask tt (λ _ t' _ k'. at_ask tt (λ _ u _ l. at_end (
      moved (l.0 ∙ (k'.0 ∙ armed-in t _ k.1.places (k.0 ∙ closing (length bytes) bytes s z.places))) (
        requested b refl refl refl refl refl,
        fits-gives-last-first (afresh s.1 w) (view s.0) (length bytes)
            (data1 w.rx) acked-ack acked-one (data1 w.tx) acked-ack acked-one f,
      ),
      tt,
    )))))
law-data-in bytes false true w s (b, f) z =
    past-rows s (length bytes) (λ q. ((b, f), unstarted (not-started b q)))
    (λ t l. ((b, f), misfits (above (length bytes) b t l))) (λ g. ((b, f), ended (untaken-by w (view s.0) f g)))
    (at_ask tt (λ _ t _ k. at_ask tt (λ _ t' _ k'. at_ask tt (λ v t'' _ k''. at_ask tt (λ _ u _ l. at_end (
      moved (l.0 ∙ (k''.0 ∙ (k'.0 ∙ armed-in t _ k.1.places (k.0
          ∙ closing (length bytes) bytes s z.places)))) (
            requested b refl refl refl refl refl,
            fits-gives-last-next (afresh s.1 w) (view s.0) (length bytes)
                (data1 w.rx) acked-ack acked-one v f,
          ),
      tt,
    ))))))
law-data-in bytes true false w s (b, f) z =
    past-rows s (length bytes) (λ q. ((b, f), unstarted (not-started b q)))
    (λ t l. ((b, f), misfits (above (length bytes) b t l))) (λ g. ((b, f), ended (untaken-by w (view s.0) f g)))
    (at_ask tt (λ _ t _ k. at_ask tt (λ _ u _ l. at_end (
      moved (l.0 ∙ (k.0 ∙ opening (length bytes) bytes s z.places)) (
        requested b refl refl refl refl refl,
        fits-gives-first (afresh s.1 w) (view s.0) (length bytes) (data1
            w.tx) acked-ack acked-one f,
      ),
      tt,
    ))))
law-data-in bytes false false w s (b, f) z =
    past-rows s (length bytes) (λ q. ((b, f), unstarted (not-started b q)))
    (λ t l. ((b, f), misfits (above (length bytes) b t l))) (λ g. ((b, f), ended (untaken-by w (view s.0) f g)))
    (at_ask tt (λ _ t _ k. at_ask tt (λ v t' _ k'. at_ask tt (λ _ u _ l. at_end (
      moved (l.0 ∙ (k'.0 ∙ (k.0 ∙ opening (length bytes) bytes s z.places)))
          (requested b refl refl refl refl refl, fits-gives-next (afresh s.1 w) (view s.0) (length bytes) v f),
      tt,
    )))))

-- ---- accept

cleared : (c : Control) (s : St) → Whole s
    → view (in_with (with_ready 0) (noted c s)).0
    ≡ set_in (record { ready = 0; armed = (view s.0).inn.armed; len = (view s.0).inn.len }) (set_control c (view
    s.0))
cleared c s h = in-view (with_ready 0) (noted c s) (noted-whole c s h)
    ∙ ap (λ (y : View). set_in (record { ready = 0; armed = y.inn.armed; len = y.inn.len }) y) (noted-view c s)

abbrev status_word : ℕ → Ep0Word → Ep0Word
status_word v c = written_as (status v) (word_read_as v c)

pub law-accept : Law (other BeginAccept)
law-accept w s (b, f) z =
    past-setup s (λ q. ((b, f), unstarted (not-started b q))) (λ g. ((b, f), ended (untaken-by w (view s.0) f g)))
    (at_ask tt (λ _ t _ k. at_ask tt (λ v t' _ k'. at_ask tt (λ _ u _ l. at_end (
      moved (l.0 ∙ (k'.0 ∙ (k.0 ∙ cleared (request_of ACCEPT 0) s z.places))) (
        requested b refl refl refl refl refl,
        fits-confirms keeps (afresh s.1 w) (view s.0) (status_word v w.tx) (request_of ACCEPT 0)
            refl off (status-acks v) (status-one v) f,
      ),
      tt,
    )))))

pub law-accept-address : (a : ℕ) → Law (other (BeginAcceptSetAddress a))
law-accept-address a w s (b, f) z =
    past-setup s (λ q. ((b, f), unstarted (not-started b q))) (λ g. ((b, f), ended (untaken-by w (view s.0) f g)))
    (at_ask tt (λ _ t _ k. at_ask tt (λ v t' _ k'. at_ask tt (λ _ u _ l. at_end (
      moved (l.0 ∙ (k'.0 ∙ (k.0 ∙ cleared (address_of (a % 256)) s z.places))) (
        requested b refl refl refl refl refl,
        fits-confirms (sets (a % 128)) (afresh s.1 w) (view s.0) (status_word v w.tx)
            (address_of (a % 256)) refl (on, omega arith) (status-acks v) (status-one v) f,
      ),
      tt,
    )))))

-- ---- reject

disarmed : (s : St) → Whole s → view (in_with (with_armed 0) (out_with (with_armed 0) (noted empty_control s))).0
    ≡ set_in (record { ready = (view s.0).inn.ready; armed = 0; len = (view s.0).inn.len })
    (out_is_set (record { ready = (view s.0).out.ready; armed = 0; len = (view s.0).out.len })
    (set_control empty_control (view s.0)))
disarmed s h =
    let x = noted empty_control s in
    let hx = noted-whole empty_control s h in
    in-view (with_armed 0) (out_with (with_armed 0) x) (out-whole (with_armed 0) x hx)
    ∙ ap (λ (y : View). set_in (record { ready = y.inn.ready; armed = 0; len = y.inn.len }) y)
    (out-view (with_armed 0) x hx
    ∙ ap (λ (y : View). out_is_set (record { ready = y.out.ready; armed = 0; len = y.out.len }) y)
    (noted-view empty_control s))

pub law-reject : Law (other BeginReject)
law-reject w s (b, f) z =
    watch-cond (eqb s.0.globals.stage 2)
    (λ _. at_ask tt (λ v t _ k. at_ask tt (λ _ t' _ k'. at_ask tt (λ u t'' _ k''. at_ask tt (λ _ t''' _ l. at_end (
      moved (l.0 ∙ (k''.0 ∙ (k'.0 ∙ (k.0 ∙ disarmed s z.places))))
          (requested b refl refl refl refl refl, fits-rejects (afresh s.1 w) (view s.0) u v f),
      tt,
    ))))))
    (λ q. at_end ((b, f), unstarted (not-started b q)))

-- ---- setup

-- nothing is awaited any more
waits-none : (w : Log) (x : View) (c : Control) → c.sort ≡ 1 → Fit w x
    → (w.exempt ≡ true) ⊎ Rel w.rx w.tx w.len w.got w.pipe nothing w.untaken (set_control c x)
waits-none w x c h (inl e) = inl e
waits-none w x c h (inr r) = inr (record {
  stage = r.stage;
  out = r.out;
  inn = r.inn;
  waits = unstaged (record {
    not_out = λ q. absurd (omega (arith, q, h));
    not_in = λ q. absurd (omega (arith, q, h));
    not_status = λ q. absurd (omega (arith, q, h));
  });
  size = r.size;
  received = r.received;
  setup = r.setup;
})

pub law-setup : Law (other BeginSetup)
law-setup w s (b, f) z =
    watch-cond (eqb s.0.globals.stage 2)
    (λ _. at_end (
      moved (noted-view (request_of SETUP 0) s) (
        requested b refl refl refl refl refl,
        waits-none w (view s.0)
            (request_of SETUP 0) refl f,
      ),
      tt,
    ))
    (λ q. at_end ((b, f), unstarted (not-started b q)))

-- ---- the packet of a data_in in EP0's slot

module _ (w : Log) (s : St) (bytes : List ℕ) (k : Base w.request w.started w.slot (view s.0))
    (f : Fitted s) where
  filled : (c : Control) → eqb s.0.globals.stage 2 ≡ true
      → ltb s.0.globals.ep0_max (length bytes) ≡ false
      → bytes_at (filled_ep0 (noted c s).0 bytes s.1) w.slot (length bytes) ≡ bytes
  unfolding filled_ep0
  filled c two few =
      let on : w.started ≡ true = sym k.started ∙ two in
      let small = ltb-false s.0.globals.ep0_max (length bytes) few in
      let most : (noted c s).0.globals.ep0_max ≡ s.0.globals.ep0_max
      = ap (λ (y : View). y.maximum) (noted-view c s) in
      let at : (noted c s).0.globals.ep0_buf ≡ w.slot
      = ap (λ (y : View). y.buffer) (noted-view c s) ∙ k.slot on in
      let long : w.slot + length bytes ≤ length s.1
      = omega (arith, small, k.maximum on, k.slot on, k.inside on, f) in
      ap (λ (b : Bool). bytes_at (cond b s.1 (copied s.1 (noted c s).0.globals.ep0_buf bytes)) w.slot
      (length bytes)) (ap (λ (n : ℕ). ltb n (length bytes)) most ∙ few)
      ∙ (ap (λ (n : ℕ). bytes_at (copied s.1 n bytes) w.slot (length bytes)) at
      ∙ copied-bytes s.1 w.slot bytes long)

  pub loads-data-in : (first last : Bool)
      → AtFirst (λ b. bytes_at b w.slot (length bytes) ≡ bytes) (run concrete (code (slotted
      (BeginDataIn bytes first last))) s)
  loads-data-in first true = first-cond (eqb s.0.globals.stage 2)
      (λ two. first-cond (ltb s.0.globals.ep0_max (length bytes)) (λ _. watch.ended)
      (λ few. first-cond (is_on s.0.globals.setup_ready) (λ _. watch.ended)
      (λ _. watch.handed (filled (data_in_of (length bytes) 1 1) two few)))) (λ _. watch.ended)
  loads-data-in first false = first-cond (eqb s.0.globals.stage 2)
      (λ two. first-cond (ltb s.0.globals.ep0_max (length bytes)) (λ _. watch.ended)
      (λ few. first-cond (is_on s.0.globals.setup_ready) (λ _. watch.ended)
      (λ _. watch.handed (filled (data_in_of (length bytes) 0 1) two few)))) (λ _. watch.ended)

past_all : {K : Buf → Buf → Type 0} (n : ℕ) (s : St) {o : tree.Out St Answer} → SparedAfter K o
    → SparedAfter K (cond (eqb s.0.globals.stage 2) (cond (ltb s.0.globals.ep0_max n) (ends (Refused 10) s)
    (cond (is_on s.0.globals.setup_ready) (ends (Refused 9) s) o)) (ends (Refused 4) s))
past_all n s x = after_cond (eqb s.0.globals.stage 2)
    (λ _. after_cond (ltb s.0.globals.ep0_max n) (λ _. no_more)
    (λ _. after_cond (is_on s.0.globals.setup_ready) (λ _. no_more) (λ _. x))) (λ _. no_more)

pub spares-data-in : (bytes : List ℕ) (first last : Bool) (s : St)
    → SparedAfter (λ b l. l ≡ b) (run concrete (code (slotted (BeginDataIn bytes first last))) s)
spares-data-in bytes true true s = past_all (length bytes) s
    (then (λ _ _. goes refl (λ _ _. goes refl (λ _ _. stops refl))))
spares-data-in bytes false true s = past_all (length bytes) s
    (then (λ _ _. goes refl (λ _ _. goes refl (λ _ _. goes refl (λ _ _. stops refl)))))
spares-data-in bytes true false s = past_all (length bytes) s (then (λ _ _. goes refl (λ _ _. stops refl)))
spares-data-in bytes false false s = past_all (length bytes) s
    (then (λ _ _. goes refl (λ _ _. goes refl (λ _ _. stops refl))))
