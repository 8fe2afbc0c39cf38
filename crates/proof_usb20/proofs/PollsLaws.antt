-- The laws of the control pipe's polls: a poll is done exactly after the completion, is refused for one of its reasons
-- alone, and writes the address after the completion alone
use Rattle.std.specs.Prelude.{Bool, true, false, not, cond, ◌&&◌, [], ◌⊎◌, ◌≡◌, refl, ℕ, ◌%◌, eqb, ltb, length}
use Rattle.std.proofs.Common.{inl, inr, ap, subst, sym, ◌∙◌, arith, eqb-true}
use Rattle.regs.specs.declared.Dir.TheVariants.{Out, In}
use Rattle.state.specs.declared.Control.{Control}
use Rattle.state.specs.declared.Globals.{Globals}
use Rattle.ring.specs.Copies.{bytes_at}
use Rattle.script.specs.Tree as tree
use Rattle.script.specs.Cells.{ep-cell, control-cell, globals-cell}
use Rattle.script.specs.Script.{run, no_wakes}
use Rattle.script.specs.Statics.{is_on, with_ready, with_setup}
use Rattle.script.specs.Answers.{Answer, Refused, NotYet, Done}
use Rattle.script.specs.Control.{SETUP, DATA-OUT, DATA-IN, ACCEPT, empty_control, data_in_of, setup_bytes}
use Rattle.script.specs.Calls.{slotted, other, PollDataOut, PollSetup, PollDataIn, PollAccept, code}
use Rattle.script_ops.specs.Rings.{St}
use Rattle.script_ops.specs.Concrete.{concrete}
use Rattle.proof_book.specs.Sorting.{Sorting}
use Rattle.proof_usb20.specs.Pipe.{Half, Pipe, Awaited, nothing, taken, given, confirmed, over, keeps, sets}
use Rattle.proof_usb20.specs.Log.{Ep0Word, Request, empty_request, for-setup, for-data-in, for-status, for_data_out}
use Rattle.proof_usb20.specs.Log.{Log, afresh, Accepted, Allowed, asks_after, poll_setup, pollOut, poll_in}
use Rattle.proof_usb20.specs.Log.{pollStatus, SetupPacket, no_packet}
use Rattle.proof_usb20.specs.Log.{begun, other_length, Complete, unstarted, ended, misfits, unbegun}
use Rattle.proof_usb20.specs.Watch.{at_end, at_ask}
use Rattle.proof_usb20.specs.WatchLaws.{watch-cond}
use Rattle.proof_usb20.specs.Ep0.{Watch, Rec, View, view, Fits, Rests, unstaged, set_up, Due, Gives, first_wait}
use Rattle.proof_usb20.specs.Ep0.{second_wait}
use Rattle.proof_usb20.specs.Ep0.{Waits, Rel, Says, Base, Line, R, Between, Ends, Law}
use Rattle.proof_usb20.specs.ExemptLaws.{differ}
use Rattle.proof_usb20.proofs.FittingLaws as fitting
use Rattle.proof_usb20.proofs.FittingLaws.{Fit, none-staged}
use Rattle.proof_usb20.specs.ViewsLaws.{set_in, set_control, set_ready, put_control, put_globals}
use Rattle.proof_usb20.specs.Ep0Laws.{act-view}
use Rattle.proof_usb20.proofs.StagesLaws.{out_with, in_with, Whole, out-view, in-view, out-whole, moved, fit_of}
use Rattle.proof_usb20.proofs.StagesLaws.{requested}
use Rattle.proof_usb20.proofs.StagesLaws.{not-started, untaken-by}

-- ---- a request that is over

pub rested : {p : Pipe} {x : View} → x.control ≡ empty_control → Rests p x
rested e = unstaged (rw e none-staged)

-- records whose `ready` alone changed
pub record Kin (x y : View) : Type 0 where
  pub out : y.out.armed ≡ x.out.armed
  pub inn : y.inn.armed ≡ x.inn.armed
  pub len : y.out.len ≡ x.out.len
  pub stage : y.stage ≡ x.stage
  pub maximum : y.maximum ≡ x.maximum
  pub buffer : y.buffer ≡ x.buffer
  pub room : y.room ≡ x.room
  pub setup : y.setup_ready ≡ x.setup_ready
  pub bytes : y.setup_bytes_lem ≡ x.setup_bytes_lem

refit : {c : Ep0Word} {h : Half} {r s : Rec} → s.armed ≡ r.armed → Fits c h r → Fits c h s
refit e f = record { shows = f.shows; toggles = f.toggles; armed = ap is_on e ∙ f.armed }

pub over-now : {q : Request} {b ex : Bool} {m : ℕ} {rx tx : Ep0Word} {l g : ℕ} {p : Pipe} {a : Awaited}
    {u : SetupPacket} {x y : View} → Base q b m x
    → (ex ≡ true) ⊎ Rel rx tx l g p a u x → Kin x y → y.control ≡ empty_control
    → Line empty_request b m ex rx tx l g p nothing u y
over-now {ex = ex} {rx = rx} {tx = tx} {l = l} {g = g} {p = p} {a = a} {u = u} {x = x} {y = y} k f i c =
    (requested k i.stage i.maximum i.buffer i.room (ap (λ (z : Control). z.sort) c), by f)
  where
    by : (ex ≡ true) ⊎ Rel rx tx l g p a u x → (ex ≡ true) ⊎ Rel rx tx l g p nothing u y
    by (inl e) = inl e
    by (inr r) = inr (record {
      stage = i.stage ∙ r.stage;
      out = refit i.out r.out;
      inn = refit i.inn r.inn;
      waits = rested c;
      size = r.size;
      received = λ h. i.len ∙ r.received h;
      setup = rw (i.setup, i.bytes) r.setup;
    })

-- ---- the states

abbrev none : St → St
none s = concrete.put control-cell empty_control s

none-view : (s : St) → view (none s).0 ≡ set_control empty_control (view s.0)
none-view s = put_control empty_control s

kin-by : (x : View) {y z : View} → y ≡ z → Kin x z → Kin x y
kin-by x e k = subst (Kin x) (sym e) k

kin-none : (s : St) → Kin (view s.0) (view (none s).0)
kin-none s = kin-by (view s.0) (none-view s) (record {
  out = refl;
  inn = refl;
  len = refl;
  stage = refl;
  maximum = refl;
  buffer = refl;
  room = refl;
  setup = refl;
  bytes = refl;
})

kin-out : (s : St) → Whole s → Kin (view s.0) (view (none (out_with (with_ready 0) s)).0)
kin-out s h = kin-by (view s.0) (none-view (out_with (with_ready 0) s)
    ∙ ap (set_control empty_control) (out-view (with_ready 0) s h))
    (record {
      out = refl;
      inn = refl;
      len = refl;
      stage = refl;
      maximum = refl;
      buffer = refl;
      room = refl;
      setup = refl;
      bytes = refl;
    })

kin-in : (s : St) → Whole s → Kin (view s.0) (view (none (in_with (with_ready 0) s)).0)
kin-in s h = kin-by (view s.0) (none-view (in_with (with_ready 0) s)
    ∙ ap (set_control empty_control) (in-view (with_ready 0) s h))
    (record {
      out = refl;
      inn = refl;
      len = refl;
      stage = refl;
      maximum = refl;
      buffer = refl;
      room = refl;
      setup = refl;
      bytes = refl;
    })

kin-both : (s : St) → Whole s → Kin (view s.0) (view (none (in_with (with_ready 0) (out_with (with_ready 0) s))).0)
kin-both s h = kin-by (view s.0)
    (none-view (in_with (with_ready 0) (out_with (with_ready 0) s)) ∙ ap (set_control empty_control)
    (in-view (with_ready 0) (out_with (with_ready 0) s) (out-whole (with_ready 0) s h)
    ∙ ap (λ (y : View). set_in (record { ready = 0; armed = y.inn.armed; len = y.inn.len }) y) (out-view
    (with_ready 0) s h)))
    (record {
      out = refl;
      inn = refl;
      len = refl;
      stage = refl;
      maximum = refl;
      buffer = refl;
      room = refl;
      setup = refl;
      bytes = refl;
    })

done_none : (s : St) → (view (none s).0).control ≡ empty_control
done_none s = ap (λ (x : View). x.control) (none-view s)

-- ---- setup

eight : (g : Globals) → length (setup_bytes g) ≡ 8
unfolding setup_bytes
eight g = refl

-- no request of the poll's sort is there
none-setup : (q : Request) (c : Control) → Says q c → eqb c.sort 1 ≡ false → begun poll_setup q ≡ false
none-setup empty_request c s h = refl
none-setup for-setup c s h = differ (sym h ∙ ap (λ (n : ℕ). eqb n 1) s)
none-setup for-data-in c s h = refl
none-setup for-status c s h = refl
none-setup (for_data_out m) c s h = refl

none_out : (q : Request) (c : Control) → Says q c → eqb c.sort 2 ≡ false → begun pollOut q ≡ false
none_out empty_request c s h = refl
none_out for-setup c s h = refl
none_out for-data-in c s h = refl
none_out for-status c s h = refl
none_out (for_data_out m) c s h = differ (sym h ∙ ap (λ (n : ℕ). eqb n 2) s.0)

none_in : (q : Request) (c : Control) → Says q c → eqb c.sort 3 ≡ false → begun poll_in q ≡ false
none_in empty_request c s h = refl
none_in for-setup c s h = refl
none_in for-data-in c s h = differ (sym h ∙ ap (λ (n : ℕ). eqb n 3) s)
none_in for-status c s h = refl
none_in (for_data_out m) c s h = refl

none-status : (q : Request) (c : Control) → Says q c → eqb c.sort 4 ≡ false → begun pollStatus q ≡ false
none-status empty_request c s h = refl
none-status for-setup c s h = refl
none-status for-data-in c s h = refl
none-status for-status c s h = differ (sym h ∙ ap (λ (n : ℕ). eqb n 4) s)
none-status (for_data_out m) c s h = refl

pub law-poll-setup : Law (other PollSetup)
unfolding setup_bytes
law-poll-setup w s (k, f) z =
    watch-cond (eqb s.0.globals.stage 2)
    (λ _. watch-cond (eqb s.0.control.sort SETUP)
    (λ q. watch-cond (is_on s.0.globals.setup_ready) (λ o. at_end (
      moved seen (requested k refl refl refl refl refl, taken-setup f (eqb-true s.0.control.sort SETUP q)),
      (λ h. sym (fit_of f h).setup.there ∙ o, eight s.0.globals, λ h. (fit_of f h).setup.packet),
    )) (λ o. at_end ((k, f), λ h. sym (fit_of f h).setup.there ∙ o)))
    (λ q. at_end ((k, f), unbegun (none-setup w.request s.0.control k.says q))))
    (λ q. at_end ((k, f), unstarted (not-started k q)))
  where
    x : St
    x = concrete.put globals-cell (with_setup 0 s.0.globals.setup_low s.0.globals.setup_high
        s.0.globals) s

    seen : view (none x).0 ≡ set_control empty_control (set_ready 0 (setup_bytes s.0.globals) (view s.0))
    seen = none-view x ∙ ap (set_control empty_control) (put_globals
        (with_setup 0 s.0.globals.setup_low s.0.globals.setup_high s.0.globals) s)

    by : (a : Awaited) → Rel w.rx w.tx w.len w.got w.pipe a w.untaken (view s.0)
        → s.0.control.sort ≡ 1
        → Rel w.rx w.tx w.len w.got w.pipe a no_packet
        (set_control empty_control (set_ready 0 (setup_bytes s.0.globals) (view s.0)))
    by nothing r q = record {
      stage = r.stage;
      out = r.out;
      inn = r.inn;
      waits = rested refl;
      size = r.size;
      received = r.received;
      setup = record { there = fitting.off; packet = tt };
    }
    by taken r q = absurd (omega (arith, q, r.waits.0))
    by (given last) r q = absurd (omega (arith, q, r.waits.0))
    by (confirmed s) r q = absurd (omega (arith, q, r.waits.0))

    taken-setup : Fit w (view s.0) → s.0.control.sort ≡ 1
        → (w.exempt ≡ true) ⊎ Rel w.rx w.tx w.len w.got w.pipe w.awaits no_packet
        (set_control empty_control (set_ready 0 (setup_bytes s.0.globals) (view s.0)))
    taken-setup (inl e) q = inl e
    taken-setup (inr r) q = inr (by w.awaits r q)

-- where nothing is waited for, nothing is ready
nothing-ready : {p : Pipe} {x : View} {b : Bool} → Rests p x
    → (x.control.sort ≡ 2 → is_on x.out.ready ≡ b → false ≡ b)
    × (x.control.sort ≡ 4 → is_on x.inn.ready ≡ b → false ≡ b)
nothing-ready (unstaged a) = (λ q _. absurd (a.not_out q), λ q _. absurd (a.not_status q))
nothing-ready (set_up e f g h i) = (λ _ o. sym f ∙ o, λ _ o. sym g ∙ o)

-- ---- data_out

-- not ready: the wait goes on, or a setup packet has ended it
ready-out : (a : Awaited) {rx tx : Ep0Word} {l g : ℕ} {p : Pipe} {u : SetupPacket} {b : Bool} {x : View}
    → Rel rx tx l g p a u x
    → x.control.sort ≡ 2
    → is_on x.out.ready ≡ b → asks_after pollOut a && over a p ≡ b
ready-out nothing r q o = (nothing-ready r.waits).0 q o
ready-out taken r q o = sym r.waits.1.ready ∙ o
ready-out (given last) r q o = absurd (omega (arith, q, r.waits.0))
ready-out (confirmed s) r q o = absurd (omega (arith, q, r.waits.0))

-- the record has the packet's length
received-out : (a : Awaited) {rx tx : Ep0Word} {l g : ℕ} {p : Pipe} {u : SetupPacket} {x : View} → Rel rx tx l g p a u x
    → x.control.sort ≡ 2 → is_on x.out.ready ≡ true → x.out.len ≡ g
received-out nothing r q o = differ ((nothing-ready r.waits).0 q o)
received-out taken r q o = r.received r.waits.1.begun
received-out (given last) r q o = absurd (omega (arith, q, r.waits.0))
received-out (confirmed s) r q o = absurd (omega (arith, q, r.waits.0))

-- another length than its begin's
other_length_lem : (q : Request) (c : Control) (n : ℕ) → Says q c → c.sort ≡ 2 → eqb c.length n ≡ false
    → other_length n q ≡ true
other_length_lem empty_request c n s t h = absurd (omega (arith, s, t))
other_length_lem for-setup c n s t h = absurd (omega (arith, s, t))
other_length_lem for-data-in c n s t h = absurd (omega (arith, s, t))
other_length_lem for-status c n s t h = absurd (omega (arith, s, t))
other_length_lem (for_data_out m) c n s t h = ap not (ap (λ (k : ℕ). eqb k n) (sym s.1) ∙ h)

pub law-poll-data-out : (n : ℕ) → Law (slotted (PollDataOut n))
law-poll-data-out n w s (k, f) z =
    watch-cond (eqb s.0.globals.stage 2)
    (λ _. watch-cond (eqb s.0.control.sort DATA-OUT)
    (λ q. let two = eqb-true s.0.control.sort DATA-OUT q in
    watch-cond (eqb s.0.control.length n)
    (λ _. watch-cond (is_on (concrete.get (ep-cell Out 0) s).ready)
    (λ o.
    let whole : Complete pollOut true w = λ h. ready-out w.awaits (fit_of f h) two o in
    watch-cond (ltb n (concrete.get (ep-cell Out 0) s).len)
    (λ y. at_end (
      over-now k f (kin-out s z.places) (done_none (out_with (with_ready 0) s)),
      (misfits (inr (whole, λ h. ap (ltb n) (sym (received-out w.awaits (fit_of f h) two o)) ∙ y)), tt, tt),
    ))
    (λ _. at_end (
      over-now k f (kin-out s z.places) (done_none (out_with (with_ready 0) s)),
      (
        tt,
        whole,
        λ h. kept
            ∙ packet two o h,
      ),
    )))
    (λ o. watch-cond (is_on s.0.globals.setup_ready)
    (λ g. at_end (over-now k f (kin-none s) (done_none s), (ended (untaken-by w (view s.0) f g), tt, tt)))
    (λ g. at_end (
      (k, f),
      (
        (
          λ h. ready-out w.awaits (fit_of f h) two o,
          λ h. sym (fit_of f h).setup.there
              ∙ g,
        ),
        tt,
        tt,
      ),
    ))))
    (λ y. at_end (
      over-now k f (kin-out s z.places) (done_none (out_with (with_ready 0) s)),
      (misfits (inl (other_length_lem w.request s.0.control n k.says two y)), tt, tt),
    )))
    (λ q. at_end ((k, f), (unbegun (none_out w.request s.0.control k.says q), tt, tt))))
    (λ q. at_end ((k, f), (unstarted (not-started k q), tt, tt)))
  where
    kept : bytes_at s.1 (out_with (with_ready 0) s).0.globals.ep0_buf (view s.0).out.len
        ≡ bytes_at s.1 (view s.0).buffer (view s.0).out.len
    kept = ap (λ (y : View). bytes_at s.1 y.buffer (view s.0).out.len) (out-view (with_ready 0) s z.places)

    -- the slot's bytes, as many as were received
    packet : s.0.control.sort ≡ 2 → is_on (view s.0).out.ready ≡ true → w.exempt ≡ false
        → bytes_at s.1 (view s.0).buffer (view s.0).out.len ≡ bytes_at s.1 w.slot w.got
    packet two o h = let r = fit_of f h in
        ap (λ (a : ℕ). bytes_at s.1 a (view s.0).out.len) (k.slot (sym k.started
        ∙ ap (λ (n : ℕ). eqb n 2) r.stage))
        ∙ ap (bytes_at s.1 w.slot) (received-out w.awaits r two o)

-- ---- accept

ready-status : (a : Awaited) {rx tx : Ep0Word} {l g : ℕ} {p : Pipe} {u : SetupPacket} {b : Bool} {x : View}
    → Rel rx tx l g p a u x
    → x.control.sort ≡ 4
    → is_on x.inn.ready ≡ b → asks_after pollStatus a && over a p ≡ b
ready-status nothing r q o = (nothing-ready r.waits).1 q o
ready-status taken r q o = absurd (omega (arith, q, r.waits.0))
ready-status (given last) r q o = absurd (omega (arith, q, r.waits.0))
ready-status (confirmed s) r q o = sym r.waits.1.ready ∙ o

-- the address that is written is the accepted one, if one is
address-written : (a : Awaited) {rx tx : Ep0Word} {l g : ℕ} {p : Pipe} {u : SetupPacket} {x : View}
    → Rel rx tx l g p a u x
    → x.control.sort ≡ 4
    → is_on x.inn.ready ≡ true → is_on x.control.sets_address ≡ true
    → Accepted a (x.control.address % 128) × (a ≡ confirmed (sets (x.control.address % 128)))
address-written nothing r q o h = differ (ready-status nothing r q o)
address-written taken r q o h = absurd (omega (arith, q, r.waits.0))
address-written (given last) r q o h = absurd (omega (arith, q, r.waits.0))
address-written (confirmed keeps) r q o h = differ (sym r.waits.2 ∙ h)
address-written (confirmed (sets a)) r q o h = (
  r.waits.2.1,
  ap (λ (n : ℕ). confirmed (sets n))
      (sym r.waits.2.1),
)

none_written : (a : Awaited) {rx tx : Ep0Word} {l g : ℕ} {p : Pipe} {u : SetupPacket} {x : View} → Rel rx tx l g p a u x
    → x.control.sort ≡ 4
    → is_on x.inn.ready ≡ true → is_on x.control.sets_address ≡ false → a ≡ confirmed keeps
none_written nothing r q o h = differ (ready-status nothing r q o)
none_written taken r q o h = absurd (omega (arith, q, r.waits.0))
none_written (given last) r q o h = absurd (omega (arith, q, r.waits.0))
none_written (confirmed keeps) r q o h = refl
none_written (confirmed (sets a)) r q o h = differ (sym h ∙ r.waits.2.0)

pub law-poll-accept : Law (other PollAccept)
law-poll-accept w s (k, f) z =
    watch-cond (eqb s.0.globals.stage 2)
    (λ _. watch-cond (eqb s.0.control.sort ACCEPT)
    (λ q. let four = eqb-true s.0.control.sort ACCEPT q in
    watch-cond (is_on (concrete.get (ep-cell In 0) s).ready)
    (λ o.
    let whole : Complete pollStatus true w = λ h. ready-status w.awaits (fit_of f h) four o in
    watch-cond (is_on s.0.control.sets_address)
    (λ y. at_ask (whole, λ h. (address-written w.awaits (fit_of f h) four o y).0) (λ v t _ i.
    at_end (
      moved (i.0 ∙ act-view no_wakes refl (none (in_with (with_ready 0) s)))
          (over-now k f (kin-in s z.places) (done_none (in_with (with_ready 0) s))),
      (tt, whole, λ h. (address-written w.awaits (fit_of f h) four o y).1),
    )))
    (λ y. at_end (
      over-now k f (kin-in s z.places) (done_none (in_with (with_ready 0) s)),
      (tt, whole, λ h. none_written w.awaits (fit_of f h) four o y),
    )))
    (λ o. watch-cond (is_on s.0.globals.setup_ready)
    (λ g. at_end (over-now k f (kin-none s) (done_none s), (ended (untaken-by w (view s.0) f g), tt, tt)))
    (λ g. at_end (
      (k, f),
      (
        (
          λ h. ready-status w.awaits (fit_of f h) four o,
          λ h. sym (fit_of f h).setup.there
              ∙ g,
        ),
        tt,
        tt,
      ),
    ))))
    (λ q. at_end ((k, f), (unbegun (none-status w.request s.0.control k.says q), tt, tt))))
    (λ q. at_end ((k, f), (unstarted (not-started k q), tt, tt)))

-- ---- data_in

-- the two waits of a data_in, as the request's record has them
data Waiting (a : Awaited) (p : Pipe) (x : View) : Type 0 where
  -- a setup packet has ended it
  aborted : is_on x.setup_ready ≡ true → is_on x.out.ready ≡ false → is_on x.inn.ready ≡ false → Waiting a p x
  packet_of_lem : (last : Bool) → a ≡ given last → is_on x.control.last ≡ last → x.control.wait ≡ 1
      → Due p.inn x.inn → (last ≡ true → Due p.out x.out) → Waiting a p x
  closing_of : a ≡ given true → is_on x.control.last ≡ true → x.control.wait ≡ 2 → p.inn.through ≡ true
      → Due p.out x.out → Waiting a p x

waiting : (a : Awaited) {rx tx : Ep0Word} {l g : ℕ} {p : Pipe} {u : SetupPacket} {x : View} → Rel rx tx l g p a u x
    → x.control.sort ≡ 3
    → Waiting a p x
waiting nothing {p = p} {x = x} r q = by r.waits
  where
    by : Rests p x → Waiting nothing p x
    by (unstaged a) = absurd (a.not_in q)
    by (set_up e f g h i) = aborted e f g
waiting taken r q = absurd (omega (arith, q, r.waits.0))
waiting (given last) {p = p} {x = x} r q = by last r.waits.1 r.waits.2
  where
    by : (last : Bool) → is_on x.control.last ≡ last → Gives last p x → Waiting (given last) p x
    by last l (first_wait n i o) = packet_of_lem last refl l n i o
    by true l (second_wait n e i o) = closing_of refl l n i o
    by false l (second_wait n e i o) = differ e
waiting (confirmed s) r q = absurd (omega (arith, q, r.waits.0))

over_last : (p : Pipe) → p.inn.through ≡ true → over (given true) p ≡ p.out.through
over_last p h = rw h refl

not-sent : (last : Bool) (p : Pipe) → p.inn.through ≡ false → over (given last) p ≡ false
not-sent true p h = rw h refl
not-sent false p h = h

-- the first wait is over: the data packet's completion is taken
abbrev second : St → St
second s = concrete.put control-cell (data_in_of s.0.control.length s.0.control.last 2)
    (in_with (with_ready 0) s)

second-view : (s : St) → Whole s
    → view (second s).0 ≡ set_control (data_in_of s.0.control.length s.0.control.last 2)
    (set_in (record { ready = 0; armed = (view s.0).inn.armed; len = (view s.0).inn.len }) (view s.0))
second-view s h = put_control (data_in_of s.0.control.length s.0.control.last 2) (in_with (with_ready 0) s)
    ∙ ap (set_control (data_in_of s.0.control.length s.0.control.last 2)) (in-view (with_ready 0) s h)

-- a data_in's request
says-in : (q : Request) (c d : Control) → Says q c → c.sort ≡ 3 → d.sort ≡ 3 → Says q d
says-in empty_request c d s t u = absurd (omega (arith, s, t))
says-in for-setup c d s t u = absurd (omega (arith, s, t))
says-in for-data-in c d s t u = u
says-in for-status c d s t u = absurd (omega (arith, s, t))
says-in (for_data_out m) c d s t u = absurd (omega (arith, s.0, t))

abbrev Polled : Log → St → tree.Out St Answer → Type 0
Polled w s o = Watch Between (Allowed (other PollDataIn)) (Ends (other PollDataIn)) (afresh s.1 w) o

module _ (w : Log) (s : St) (k : Base w.request w.started w.slot (view s.0)) (f : Fit w (view s.0))
    (z : Sorting s.0) where
  -- the closing OUT came, empty or with data
  closed : (n : ℕ) (t : St) → Kin (view s.0) (view (none t).0) → Complete poll_in true w → (w.exempt ≡ false
      → n ≡ w.got)
      → (e : Bool) → eqb n 0 ≡ e → Polled w s (tree.ends (cond e (Done []) (Refused 10)) (none t))
  closed n t i o g true q = at_end {a = Done []} (over-now k f i (done_none t), (tt, o))
  closed n t i o g false q = at_end {a = Refused 10} (
    over-now k f i (done_none t),
    (misfits (o, λ h. ap (λ (m : ℕ). eqb m 0) (sym (g h)) ∙ q), tt),
  )

  refused : is_on s.0.globals.setup_ready ≡ true → Polled w s (tree.ends (Refused 9) (none s))
  refused g = at_end {a = Refused 9} (
    over-now k f (kin-none s) (done_none s),
    (
      ended (untaken-by w (view
          s.0) f g),
      tt,
    ),
  )

  -- not yet: no setup packet has ended it
  not_yet_lem : {t : St} → is_on s.0.globals.setup_ready ≡ false → Complete poll_in false w
      → R (afresh s.1 w) (view t.0)
      → Polled w s (tree.ends NotYet t)
  not_yet_lem g o r = at_end {a = NotYet} (r, ((o, λ h. sym (fit_of f h).setup.there ∙ g), tt))

  -- the data packet went through, the closing OUT is awaited
  goes_on_lem : s.0.control.sort ≡ 3
      → (Rel w.rx w.tx w.len w.got w.pipe w.awaits w.untaken (view s.0)
      → (w.awaits ≡ given true) × (is_on s.0.control.last ≡ true) × (w.pipe.inn.through ≡ true)
      × Due w.pipe.out (view s.0).out)
      → R (afresh s.1 w) (view (second s).0)
  goes_on_lem t g = moved (second-view s z.places)
      (requested k refl refl refl refl (says-in w.request s.0.control _ k.says t refl), by f)
    where
      y : View
      y = set_control (data_in_of s.0.control.length s.0.control.last 2)
          (set_in (record { ready = 0; armed = (view s.0).inn.armed; len = (view s.0).inn.len }) (view s.0))

      by : Fit w (view s.0) → Fit w y
      by (inl e) = inl e
      by (inr r) = let h = g r in inr (record {
        stage = r.stage;
        out = r.out;
        inn = refit refl r.inn;
        waits = subst (λ (a : Awaited). Waits a w.pipe y) (sym h.0) (
          refl,
          h.1,
          second_wait refl refl h.2
              h.3,
        );
        size = r.size;
        received = r.received;
        setup = r.setup;
      })

  -- 15 and 4
  unasked : eqb s.0.control.sort DATA-IN ≡ false → Polled w s (tree.ends (Refused 15) s)
  unasked q = at_end {a = Refused 15} ((k, f), (unbegun (none_in w.request s.0.control k.says q), tt))

  early : eqb s.0.globals.stage 2 ≡ false → Polled w s (tree.ends (Refused 4) s)
  early q = at_end {a = Refused 4} ((k, f), (unstarted (not-started k q), tt))

  polled-exempt : w.exempt ≡ true → Polled w s (run concrete (code (other PollDataIn)) s)
  polled-exempt x =
      watch-cond (eqb s.0.globals.stage 2)
      (λ _. watch-cond (eqb s.0.control.sort DATA-IN)
      (λ q. watch-cond (eqb s.0.control.wait 2)
      (λ _. watch-cond (is_on (concrete.get (ep-cell Out 0) s).ready)
      (λ _. closed (concrete.get (ep-cell Out 0) s).len (out_with (with_ready 0) s) (kin-out s z.places)
      (λ h. differ (sym h ∙ x)) (λ h. differ (sym h ∙ x)) _ refl)
      (λ _. watch-cond (is_on s.0.globals.setup_ready) (λ g. refused g) (λ g. not_yet_lem g (λ h. differ (sym h
      ∙ x)) (k, f))))
      (λ _. watch-cond (is_on (concrete.get (ep-cell In 0) s).ready)
      (λ _. watch-cond (is_on s.0.control.last)
      (λ _. watch-cond (is_on (concrete.get (ep-cell Out 0) s).ready)
      (λ _. closed (concrete.get (ep-cell Out 0) s).len (in_with (with_ready 0) (out_with (with_ready 0) s)) (kin-both s
      z.places)
      (λ h. differ (sym h ∙ x)) (λ h. differ (sym h ∙ x)) _ refl)
      (λ _. watch-cond (is_on s.0.globals.setup_ready) (λ g. refused g)
      (λ g. not_yet_lem g (λ h. differ (sym h ∙ x)) (goes-on-exempt (eqb-true s.0.control.sort DATA-IN q)))))
      (λ _. at_end {a = Done []} (
        over-now k f (kin-in s z.places) (done_none (in_with (with_ready 0) s)),
        (tt, λ h. differ (sym h ∙ x)),
      )))
      (λ _. watch-cond (is_on s.0.globals.setup_ready) (λ g. refused g) (λ g. not_yet_lem g (λ h. differ (sym h
      ∙ x)) (k, f)))))
      (λ q. unasked q))
      (λ q. early q)
    where
      goes-on-exempt : s.0.control.sort ≡ 3 → R (afresh s.1 w) (view (second s).0)
      goes-on-exempt t = moved (second-view s z.places)
          (requested k refl refl refl refl (says-in w.request s.0.control _ k.says t refl), inl x)

  module _ (r : Rel w.rx w.tx w.len w.got w.pipe w.awaits w.untaken (view s.0)) where
    polled-in : Waiting w.awaits w.pipe (view s.0) → Polled w s (run concrete (code (other PollDataIn)) s)
    polled-in (aborted e i j) =
        watch-cond (eqb s.0.globals.stage 2)
        (λ _. watch-cond (eqb s.0.control.sort DATA-IN)
        (λ _. watch-cond (eqb s.0.control.wait 2)
        (λ _. watch-cond (is_on (concrete.get (ep-cell Out 0) s).ready) (λ b. differ (sym i ∙ b))
        (λ _. watch-cond (is_on s.0.globals.setup_ready) (λ g. refused g) (λ b. differ (sym b ∙ e))))
        (λ _. watch-cond (is_on (concrete.get (ep-cell In 0) s).ready) (λ b. differ (sym j ∙ b))
        (λ _. watch-cond (is_on s.0.globals.setup_ready) (λ g. refused g) (λ b. differ (sym b ∙ e)))))
        (λ q. unasked q))
        (λ q. early q)
    polled-in (closing_of a l n i o) =
        let now : (b : Bool) → is_on (view s.0).out.ready ≡ b → Complete poll_in b w = λ b y _.
        ap (λ (x : Awaited). asks_after poll_in x && over x w.pipe) a ∙ (over_last w.pipe i ∙ (sym o.ready
        ∙ y)) in
        watch-cond (eqb s.0.globals.stage 2)
        (λ _. watch-cond (eqb s.0.control.sort DATA-IN)
        (λ _. watch-cond (eqb s.0.control.wait 2)
        (λ _. watch-cond (is_on (concrete.get (ep-cell Out 0) s).ready)
        (λ b. closed (concrete.get (ep-cell Out 0) s).len (out_with (with_ready 0) s) (kin-out s z.places)
        (now true b) (λ _. r.received o.begun) _ refl)
        (λ b. watch-cond (is_on s.0.globals.setup_ready) (λ g. refused g) (λ g. not_yet_lem g (now false b) (k, f))))
        (λ two. differ (sym two ∙ ap (λ (k : ℕ). eqb k 2) n)))
        (λ q. unasked q))
        (λ q. early q)
    polled-in (packet_of_lem last a l n i o) =
        watch-cond (eqb s.0.globals.stage 2)
        (λ _. watch-cond (eqb s.0.control.sort DATA-IN)
        (λ q. watch-cond (eqb s.0.control.wait 2)
        (λ two. absurd (omega (arith, n, eqb-true s.0.control.wait 2 two)))
        (λ _. watch-cond (is_on (concrete.get (ep-cell In 0) s).ready)
        (λ b. watch-cond (is_on s.0.control.last)
        (λ x. let it : last ≡ true = sym l ∙ x in
        let gives : w.awaits ≡ given true = a ∙ ap given it in
        let sent : w.pipe.inn.through ≡ true = sym i.ready ∙ b in
        let now : (b : Bool) → is_on (view s.0).out.ready ≡ b → Complete poll_in b w = λ b y _.
        ap (λ (x : Awaited). asks_after poll_in x && over x w.pipe) gives ∙ (over_last w.pipe sent
        ∙ (sym (o it).ready ∙ y)) in
        watch-cond (is_on (concrete.get (ep-cell Out 0) s).ready)
        (λ y. closed (concrete.get (ep-cell Out 0) s).len (in_with (with_ready 0) (out_with (with_ready 0) s))
        (kin-both s z.places)
        (now true y) (λ _. r.received (o it).begun) _ refl)
        (λ y. watch-cond (is_on s.0.globals.setup_ready) (λ g. refused g)
        (λ g. not_yet_lem g (now false y) (goes_on_lem (eqb-true s.0.control.sort DATA-IN q) (λ _.
        (gives, x, sent, o it))))))
        (λ x. at_end {a = Done []} (
          over-now k f (kin-in s z.places) (done_none (in_with (with_ready 0) s)),
          (
            tt,
            λ _. ap (λ (x : Awaited). asks_after poll_in x && over x w.pipe) (a ∙ ap given (sym l ∙ x))
                ∙ (sym i.ready ∙ b),
          ),
        )))
        (λ b. watch-cond (is_on s.0.globals.setup_ready) (λ g. refused g)
        (λ g. not_yet_lem g (λ _. ap (λ (x : Awaited). asks_after poll_in x && over x w.pipe) a
        ∙ not-sent last w.pipe (sym i.ready ∙ b)) (k, f)))))
        (λ q. unasked q))
        (λ q. early q)

pub law-poll-data-in : Law (other PollDataIn)
law-poll-data-in w s (k, inl e) z = polled-exempt w s k (inl e) z e
law-poll-data-in w s (k, inr r) z = by (eqb s.0.control.sort DATA-IN) refl
  where
    by : (t : Bool) → eqb s.0.control.sort DATA-IN ≡ t → Polled w s (run concrete (code (other PollDataIn)) s)
    by true q = polled-in w s k (inr r) z r (waiting w.awaits r (eqb-true s.0.control.sort DATA-IN q))
    by false q = watch-cond (eqb s.0.globals.stage 2)
        (λ _. watch-cond (eqb s.0.control.sort DATA-IN) (λ y. differ (sym q ∙ y)) (λ y. unasked w s k (inr r) z y))
        (λ y. early w s k (inr r) z y)
