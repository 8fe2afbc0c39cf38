-- The laws of the calls that are not EP0's
use Rattle.std.specs.Prelude.{Bool, true, false, cond, ◌&&◌, ◌||◌, List, [], ◌⊎◌, ◌≡◌, refl, ℕ, zero, suc, ◌%◌, eqb, ltb, length}
use Rattle.std.proofs.Common.{inl, inr, ap, subst, sym, ◌∙◌, arith, eqb-true, ne_eqb, ltb-true}
use Rattle.bits.specs.Bit.{bit_is_set}
use Rattle.regs.specs.declared.Dir.{Dir}
use Rattle.regs.specs.declared.Dir.TheVariants.{Out, In}
use Rattle.state.specs.declared.Allocator.{Allocator}
use Rattle.state.specs.declared.Globals.{Globals}
use Rattle.state.specs.declared.Request.{Request}
use Rattle.state.specs.Driver.{Driver, ep_on, with_request_on, with_paced_on}
use Rattle.frame.specs.Usb20.{index_of, frame_of}
use Rattle.frame.specs.Advance.{NO_FRAME, completions}
use Rattle.regs.specs.Flags.{bus_rst, suspend}
use Rattle.regs.specs.IntEn.{with_bus_rst, with_suspend}
use Rattle.state.specs.Kept.{with_int_en}
use Rattle.script.specs.Tree as tree
use Rattle.script.specs.Cells.{EpCore, ep-cell, globals-cell, allocator-cell, request-cell, paced_cell}
use Rattle.script.specs.Script.{Script, run, no_wakes, allocate0, gathered}
use Rattle.bits.specs.Bit.{with_bit}
use Rattle.script.specs.Machine.{Buf}
use Rattle.proof_book.specs.TransferKindsLaws.{put-steady, act-steady}
use Rattle.proof_book.specs.Sorting.{Sorting}
use Rattle.script.specs.Statics.{is_on, with_ready, with_armed, with_paced, with_tog, with_power}
use Rattle.script.specs.Answers.{Answer, Refused, End, NotYet, Done, Shown, operation, resultless, staged, named}
use Rattle.script.specs.Answers.{unless, is_number, is_allocated}
use Rattle.script.specs.IsoIn.{iso_in_completions, iso_in_set_paced}
use Rattle.script.specs.Bus as bus
use Rattle.script.specs.Endpoint.{enabled_else, ends_request, polled, empty_request, begun}
use Rattle.script.specs.Calls.{Op, interrupt, slotted, other, aside, PollRead, BeginWrite, PollWrite, Allocate}
use Rattle.script.specs.Calls.{AllocateAll}
use Rattle.script.specs.Calls.{Start, BusPoll, BusEnable, BusDisable, Microframe, SetStalled, IsStalled, SetPaced}
use Rattle.script.specs.Calls.{Advance, BeginRead, Aside, Open, Close, Queue, aside_code, code}
use Rattle.script_ops.specs.Rings.{St}
use Rattle.script_ops.specs.Concrete.{concrete}
use Rattle.regs.specs.declared.Access.{Access}
use Rattle.proof_usb20.specs.Log as log
use Rattle.proof_usb20.specs.Log.{Log, before, exempted, afresh, opens, ends, closes, Poll, none, poll_of, settled}
use Rattle.proof_usb20.specs.Log.{EndsByReason, Allowed, AllowedTo}
use Rattle.proof_usb20.specs.Log.{Ep0Word, word_read_as, compared, with_rx, with_tx, with_slots, Shows}
use Rattle.proof_usb20.specs.Pipe.{Answers, naks, stalls, acks, Half}
use Rattle.proof_usb20.proofs.RequestLaws.{base_of, Left, kept-base, given-64, given_inside, given-start}
use Rattle.proof_usb20.proofs.RequestLaws.{started-base}
use Rattle.proof_usb20.proofs.RequestLaws.{started-stage}
use Rattle.proof_usb20.proofs.RequestLaws.{l_ret, l_bind, l-allocates, l-listed, l-start-rest, l-stalled, l-reset}
use Rattle.proof_usb20.proofs.RequestLaws.{l-int-en}
use Rattle.alloc.specs.declared.Answer as alloc
use Rattle.alloc.specs.declared.Answer.TheVariants as variant
use Rattle.alloc.specs.Alloc.{allocate_ep0_of}
use Rattle.descriptor.specs.Reading.{reading_of}
use Rattle.regs.specs.declared.Access.TheVariants.{Read}
use Rattle.regs.specs.Registers.{ctrl_of}
use Rattle.script.specs.Driver.{started_as}
use Rattle.proof_usb20.specs.Watch.{at_end, at_ask}
use Rattle.proof_usb20.specs.WatchLaws.{watch-bind, watch-more, watch-cond}
use Rattle.proof_usb20.specs.Ep0.{Watch, Rec, View, view, Fits, R, Between, Ends, Law}
use Rattle.proof_usb20.specs.ExemptLaws.{differ, further}
use Rattle.proof_usb20.specs.Ep0Laws.{act-view}
use Rattle.proof_usb20.proofs.FittingLaws.{both, and, Fit}
use Rattle.proof_usb20.proofs.QuietLaws as quiet
use Rattle.proof_usb20.proofs.QuietLaws.{plainly, steadily, Any, LeavesLog, Stays, q_ret, q_bind, q_test, q_if}
use Rattle.proof_usb20.proofs.QuietLaws.{q-read-of}
use Rattle.proof_usb20.proofs.QuietLaws.{q_write, q_is, q_look, q_fetch, q_act, q_put, put_other, put_kept}
use Rattle.proof_usb20.proofs.QuietLaws.{other_word}
use Rattle.proof_usb20.proofs.QuietLaws.{other_length_lem, other-read}
use Rattle.proof_usb20.proofs.PartsLaws.{q_got, q_wake, q_when, q_reg, q_ep, q_complete}

-- ---- a quiet call

allows : {A : Type 0} {P : Log → A → St → Type 0} {Ok : Log → Access → Type 0} {w : Log} {o : tree.Out St A}
    → ((x : Log) (q : Access) → Ok x q)
    → Watch Between Any P w o → Watch Between Ok P w o
allows g (at_end x) = at_end x
allows g (at_ask _ x) = at_ask (g _ _) (λ v t b k. allows g (x v t b k))

same_log : (b : Bool) (w : Log) → cond b w w ≡ w
same_log true w = refl
same_log false w = refl

closed : (o : Op) → poll_of o ≡ none → ((n : ℕ) (x : Log) → ends o n x ≡ x) → (a : Answer) (x : Log) → closes o a x ≡ x
closed o p e (Refused n) x = ap (λ (q : Poll). cond (eqb n 9 || eqb n 10) (settled q x) x) p
    ∙ same_log (eqb n 9 || eqb n 10) x
closed o p e (End n ws) x = e n x
closed o p e NotYet x = refl
closed o p e (Done bytes) x = ap (λ (q : Poll). log.done q x) p
closed o p e (Shown bytes stamp) x = refl

-- no interrupt
abbrev pub Task : Op → Type 0
Task interrupt = ⊥
Task (slotted o) = Unit {0}
Task (other o) = Unit {0}
Task (aside o) = Unit {0}

opened : (o : Op) → Task o → (b : Buf) (w : Log) → opens o b w ≡ afresh b w
opened (slotted o) t b w = refl
opened (other o) t b w = refl
opened (aside o) t b w = refl
opened interrupt t b w = elim t [ ]

pub quiet-law : (o : Op) → Task o → poll_of o ≡ none → ((n : ℕ) (x : Log) → ends o n x ≡ x) → ((a : Answer) (x : Log)
    → EndsByReason o a x)
    → LeavesLog (code o) → Law o
quiet-law o t p e fair q w s r z = subst (λ (u : Log). Watch Between (Allowed o) (Ends o) u (run concrete (code o) s))
    (sym (opened o t s.1 w))
    (allows (λ x q. subst (λ (a : Poll). AllowedTo a x q) (sym p) tt) (watch-more (q.goes (afresh s.1 w) s refl
    (plainly z))
    (λ x a u m. (
      subst (λ (y : Log). R y (view u.0)) (sym (closed o p e a x ∙ m.0)) (subst (R w) (sym m.1) r),
      fair a x,
    ))))

-- ---- the rows

pub q_staged : {i : Bool} (n : ℕ) {p : Script i Answer} → LeavesLog p → LeavesLog (staged n p)
q_staged n x = q_bind (q_got globals-cell) (λ g. q_test x q_ret)

q_operation : {i : Bool} {p : Script i ℕ} → LeavesLog p → LeavesLog (operation p)
q_operation x = q_bind (q_act refl q_ret) (λ _. q_bind x (λ n. q_bind (q_fetch (λ _. q_ret)) (λ w. q_ret)))

pub q_resultless : {i : Bool} {p : Script i Unit} → LeavesLog p → LeavesLog (resultless p)
q_resultless x = q_operation (q_bind x (λ _. q_ret))

-- an endpoint that is allocated has a number from 1 to 15
pub record Numbered (e : ℕ) : Type 0 where
  pub zero_not : eqb e 0 ≡ false
  pub apart : quiet.Other e

numbered : (e : ℕ) → is_number e ≡ true → Numbered e
unfolding is_number
numbered zero h = differ h
numbered (suc n) h = record {
  zero_not = ne_eqb (suc n) 0 (λ q. absurd (omega (arith, q)));
  apart
      = λ q. absurd (below q);
}
  where
    below : suc n % 16 ≡ 0 → ⊥
    below q = absurd (omega (arith, q, ltb-true (suc n) 16 (both (ltb 0 (suc n)) (ltb (suc n) 16) h).1))

allocated-number : (a : Allocator) (d : Dir) (e : ℕ) → is_allocated a d e ≡ true → Numbered e
unfolding is_allocated
allocated-number a Out e h = numbered e (both (is_number e) (bit_is_set a.allocated_out e) h).0
allocated-number a In e h = numbered e (both (is_number e) (bit_is_set a.allocated_in e) h).0

pub q-named : {i : Bool} (d : Dir) (e : ℕ) {p : Script i Answer} → (Numbered e → LeavesLog p) → LeavesLog (named d e p)
q-named d e x = q_bind (q_got allocator-cell) (λ a. q_if (is_allocated a d e) (λ h. x (allocated-number a d e h))
    (λ _. q_ret))

q-unless : {i : Bool} (b : Bool) (n : ℕ) {p : Script i Answer} → LeavesLog p → LeavesLog (unless b n p)
q-unless b n x = q_test q_ret x

put_request : (d : Dir) (e : ℕ) (v : Request) (s : St) → view (concrete.put (request-cell d e) v s).0 ≡ view s.0
unfolding with_request_on ep_on
put_request d e v s = refl

pub put_paced : (e v : ℕ) (s : St) → view (concrete.put (paced_cell e) v s).0 ≡ view s.0
unfolding with_paced_on ep_on
put_paced e v s = refl

q_ends : {i : Bool} (d : Dir) (e : ℕ) (a : Answer) → LeavesLog (ends_request {i = i} d e a)
q_ends d e a = q_bind (q_put (put_request d e empty_request) q_ret) (λ _. q_ret)

q_enabled : {i : Bool} (d : Dir) (e : ℕ) {p q : Script i Answer} → LeavesLog q → LeavesLog p
    → LeavesLog (enabled_else d e q p)
q_enabled d e x y = q_bind (q_got globals-cell) (λ g. q_test y x)

-- ---- reads and writes

pub law-begin-read : (e n : ℕ) → Law (other (BeginRead e n))
law-begin-read e n = quiet-law (other (BeginRead e n)) tt refl (λ _ _. refl) (λ _ _. tt)
    (q_staged 2 (q-named Out e (λ m. q_enabled Out e q_ret (q_bind (q_got (ep-cell Out e)) (λ s. q-unless _ 10
    (q_bind (q_put (put_request Out e (begun n)) q_ret)
    (λ _. q_resultless (q_test q_ret (q_test q_ret (q_bind (q_ep Out e (with_armed 1) m.apart)
    (λ _. q_reg Out e _ m.zero_not)))))))))))

q-polled : {i : Bool} (d : Dir) (e n : ℕ) → Numbered e → {p : EpCore → Script i Answer}
    → ((s : EpCore) → LeavesLog (p s))
    → LeavesLog (polled d e n p)
q-polled d e n m x = q_bind (q_got (request-cell d e))
    (λ r. q-unless _ 15
    (q_test (q_bind (q_got (ep-cell d e)) (λ s. x s)) (q_bind (q_ep d e (with_ready 0) m.apart)
    (λ _. q_ends d e (Refused 10)))))

pub law-poll-read : (e n : ℕ) → Law (slotted (PollRead e n))
law-poll-read e n = quiet-law (slotted (PollRead e n)) tt refl (λ _ _. refl) (λ _ _. tt) (q_staged 2 (q-named Out e
    (λ m. q-polled Out e n m (λ s. q_test
    (q_enabled Out e (q_ends Out e (Refused 9)) (q_bind (q_is (λ _. q_ret))
    (λ b. q_test (q_bind (q_fetch (λ _. q_ret)) (λ bytes. q_bind (q_act refl q_ret) (λ _. q_ends Out e _))) q_ret)))
    (q_test (q_bind (q_ep Out e (with_ready 0) m.apart) (λ _. q_test (q_ends Out e (Refused 10))
    (q_bind (q_fetch (λ _. q_ret)) (λ bytes. q_ends Out e (Done bytes)))))
    (q_enabled Out e (q_ends Out e (Refused 9)) q_ret))))))

pub law-begin-write : (e : ℕ) (bytes : List ℕ) → Law (slotted (BeginWrite e bytes))
law-begin-write e bytes = quiet-law (slotted (BeginWrite e bytes)) tt refl (λ _ _. refl) (λ _ _. tt)
    (q_staged 2 (q-named In e (λ m. q_enabled In e q_ret (q_bind (q_got (ep-cell In e)) (λ s. q-unless _ 10
    (q_bind (q_put (put_request In e (begun (length bytes))) q_ret)
    (λ _. q_resultless (q_test q_ret (q_bind (q_act refl q_ret)
    (λ _. q_bind (q_ep In e (λ s. with_armed 1 (with_ready 0 s)) m.apart)
    (λ _. q_bind (q_write (other_length_lem e _ m.zero_not) q_ret) (λ _. q_reg In e _ m.zero_not))))))))))))

pub law-poll-write : (e : ℕ) (bytes : List ℕ) → Law (slotted (PollWrite e bytes))
law-poll-write e bytes = quiet-law (slotted (PollWrite e bytes)) tt refl
    (λ _ _. refl) (λ _ _. tt) (q_staged 2 (q-named In e (λ m. q-polled In e (length bytes) m (λ s. q_test
    (q_enabled In e (q_ends In e (Refused 9)) (q_bind (q_is (λ _. q_ret))
    (λ b. q_test (q_bind (q_act refl q_ret) (λ _. q_ends In e (Done []))) q_ret)))
    (q_test (q_bind (q_ep In e (with_ready 0) m.apart) (λ _. q_ends In e (Done [])))
    (q_enabled In e (q_ends In e (Refused 9)) q_ret))))))

-- ---- before EP0's start alone

unstarted : {A : Type 0} (n : ℕ) → n ≡ 2 → eqb n 1 ≡ true → A
unstarted n h q = absurd (omega (arith, h, eqb-true n 1 q))

-- the log is exempt, and what is left of the request fits
still : (w x : Log) (s t : St) → R w (view s.0) → w.exempt ≡ true → Left w s x t → R x (view t.0)
still w x s t r e l = (kept-base r.0 l.0.request l.0.started l.0.slot l.1, inl (l.0.exempt e))

exempts : (w x : Log) (s t : St) → R w (view s.0) → Left w s x t → R (exempted x) (view t.0)
exempts w x s t r l = (kept-base r.0 l.0.request l.0.started l.0.slot l.1, inl refl)

pub law_allocate : (d : Dir) (kind address maximum interval : ℕ)
    → Law (other (Allocate d kind address maximum interval))
law_allocate d kind address maximum interval w s (k, inr r) z =
    watch-cond (eqb s.0.globals.stage 1) (λ q. unstarted s.0.globals.stage r.stage q) (λ _. at_end
    ((k, inr r), tt))
law_allocate d kind address maximum interval w s (k, inl e) z =
    watch-cond (eqb s.0.globals.stage 1)
    (λ _. watch-more ((l-allocates {i = false} d kind address maximum interval).goes (afresh s.1 w) s) (λ x a t l. (
      subst (λ (y : Log). R y (view t.0)) (sym (closed (other (Allocate d kind address maximum interval)) refl
          (λ _ _. refl) a x))
          (still (afresh s.1 w) x s t (k, inl e) e l),
      tt,
    )))
    (λ _. at_end ((k, inl e), tt))

pub law_allocate_all : (bytes : List ℕ) → Law (other (AllocateAll bytes))
law_allocate_all bytes w s (k, inr r) z =
    watch-cond (eqb s.0.globals.stage 1) (λ q. unstarted s.0.globals.stage r.stage q) (λ _. at_end
    ((k, inr r), tt))
law_allocate_all bytes w s (k, inl e) z =
    watch-cond (eqb s.0.globals.stage 1)
    (λ _. watch-more ((l-listed {i = false} bytes (reading_of bytes).answer).goes (afresh s.1 w) s) (λ x a t l. (
      subst (λ (y : Log). R y (view t.0)) (sym (closed (other (AllocateAll bytes)) refl (λ _ _. refl) a x)) (still
          (afresh s.1 w) x s t (k, inl e) e l),
      tt,
    )))
    (λ _. at_end ((k, inl e), tt))

-- EP0's start: only a maximum of 64 is given
pub law_start : (maximum : ℕ) → Law (other (Start maximum))
law_start maximum w s (k, inr r) z =
    watch-cond (eqb s.0.globals.stage 1) (λ q. unstarted s.0.globals.stage r.stage q) (λ _. at_end
    ((k, inr r), tt))
law_start maximum w s (k, inl e) z =
    watch-cond (eqb s.0.globals.stage 1)
    (λ _. by (allocate_ep0_of s.0.allocator maximum).answer refl)
    (λ _. at_end ((k, inl e), tt))
  where
    t : St
    t = concrete.act (allocate0 maximum) s

    by : (a : alloc.Answer) → (allocate_ep0_of s.0.allocator maximum).answer ≡ a
        → Watch Between (Allowed (other (Start maximum))) (Ends (other (Start maximum))) (afresh s.1 w)
        (run {i = false} concrete (started_as maximum a) t)
    by (variant.Refused n) h = at_end (
      subst (λ (y : Log). R y (view t.0)) (sym (closed-refused n)) (
        kept-base k refl refl refl (started-base
            s.0 maximum n h),
        inl e,
      ),
      tt,
    )
      where
        closed-refused : (n : ℕ) → closes (other (Start maximum)) (Refused n) (afresh s.1 w) ≡ afresh s.1 w
        closed-refused n = same_log (eqb n 9 || eqb n 10) (afresh s.1 w)
    by (variant.Given e base slots) h = at_ask tt (λ _ u _ g.
        watch-bind ((l_bind {i = false} (l-start-rest maximum) (λ _. l_ret {a = 0})).goes
        (with_slots (concrete.act no_wakes t).0.globals.ep0_buf s.1 (afresh s.1 w)) u)
        (λ x n v l. at_end {a = End n (concrete.fetch gathered v)} {s = v} (
          (
            given-start k l.0.request refl
                (l.1 ∙ (ap base_of (g.0 ∙ act-view no_wakes refl t) ∙ started-stage s.0 maximum e base slots h))
                (given-64 s.0.allocator maximum e base slots h)
                (l.0.slot ∙ (ap (λ (y : View). y.buffer) (act-view no_wakes refl t)
                ∙ ap (λ z. z.3) (started-stage s.0 maximum e base slots h)))
                (given_inside s.0.allocator maximum e base slots h),
            inl refl,
          ),
          tt,
        )))

-- ---- the bus

pub law-bus-enable : Law (other BusEnable)
law-bus-enable = quiet-law (other BusEnable) tt refl (λ _ _. refl) (λ _ _. tt) (q_staged 2 (q_resultless (q_bind
    (q-read-of (λ _ _. refl) (λ _. q_ret)) (λ v. q_write (λ _ _. refl) q_ret))))

pub law-bus-disable : Law (other BusDisable)
law-bus-disable = quiet-law (other BusDisable) tt refl (λ _ _. refl) (λ _ _. tt) (q_staged 2 (q_resultless q_ret))

pub law-microframe : Law (other Microframe)
law-microframe = quiet-law (other Microframe) tt refl (λ _ _. refl) (λ _ _. tt) (q_staged 2 (q_operation (q_bind
    (q-read-of (λ _ _. refl) (λ _. q_ret)) (λ v. q_ret))))

-- a reading of EP0's word, which it may show otherwise than it was written
lowered : (v : ℕ) {c : Ep0Word} {h : Half} {r : Rec} → Fits c h r → Fits (word_read_as v c) h r
lowered v {c = c} {h = h} f = record {
  shows = by h.answers f.shows;
  toggles = λ k b. f.toggles
      (less k) b;
  armed = f.armed;
}
  where
    less : (c.read_back && eqb v c.last) && c.in_step ≡ true → c.read_back && c.in_step ≡ true
    less k = let p = both (c.read_back && eqb v c.last) c.in_step k in
        and (both c.read_back (eqb v c.last) p.0).0 p.1

    by : (a : Answers) → Shows c h a → Shows (word_read_as v c) h a
    by naks s = λ k. s (both c.read_back (eqb v c.last) k).0
    by stalls s = s
    by (acks k) s = (s.0, λ z. s.1 (less z))

r-compared : (d : Dir) (e v : ℕ) (w : Log) (x : View) → R w x → R (compared (ctrl_of d) e v w) x
r-compared Out e v w x (k, f) = by (eqb e 0) f
  where
    by : (b : Bool) → Fit w x → R (cond b (with_rx (word_read_as v w.rx) w) w) x
    by false f = (k, f)
    by true (inl e) = (k, inl e)
    by true (inr r) = (
      k,
      inr (record {
        stage = r.stage;
        out = lowered v r.out;
        inn = r.inn;
        waits = r.waits;
        size = r.size;
        received = r.received;
        setup = r.setup;
      }),
    )
r-compared In e v w x (k, f) = by (eqb e 0) f
  where
    by : (b : Bool) → Fit w x → R (cond b (with_tx (word_read_as v w.tx) w) w) x
    by false f = (k, f)
    by true (inl e) = (k, inl e)
    by true (inr r) = (
      k,
      inr (record {
        stage = r.stage;
        out = r.out;
        inn = lowered v r.inn;
        waits = r.waits;
        size = r.size;
        received = r.received;
        setup = r.setup;
      }),
    )

pub law-is-stalled : (d : Dir) (e : ℕ) → Law (other (IsStalled d e))
law-is-stalled d e w s r z = by (eqb e 0) refl
  where
    by : (b : Bool) → eqb e 0 ≡ b
        → Watch Between (Allowed (other (IsStalled d e))) (Ends (other (IsStalled d e))) (afresh s.1 w)
        (run concrete (code (other (IsStalled d e))) s)
    by false h = quiet-law (other (IsStalled d e)) tt refl (λ _ _. refl) (λ _ _. tt) (q_staged 2 (q_if (eqb e 0)
        (λ q. differ (sym h ∙ q))
        (λ _. q-named d e (λ m. q_operation (q_bind (q-read-of (other-read d e h) (λ _. q_ret))
        (λ v. q_ret)))))) w s r z
    by true h = watch-cond (eqb s.0.globals.stage 2)
        (λ _. watch-cond (eqb e 0) (λ _. at_ask {q = Read (ctrl_of d) e} tt (λ v t _ k. at_end (
          subst (R (compared (ctrl_of d) e v (afresh s.1 w))) (sym (k.0
              ∙ act-view no_wakes refl s)) (r-compared d e v (afresh s.1 w) (view s.0) r),
          tt,
        ))) (λ q. differ (sym q ∙ h)))
        (λ _. at_end (r, tt))

q-paced : {i : Bool} (e : ℕ) (on : Bool) → LeavesLog (iso_in_set_paced {i = i} e on)
q-paced e on = record {
  goes = λ w s z k.
      let f : Globals → Globals = λ g. with_paced (with_bit g.iso_in_paced e on) g in
      let t = concrete.put globals-cell (f (concrete.get globals-cell s)) s in
      at_end (
        refl,
        put_paced e NO_FRAME t ∙ put_kept f (λ _. refl) s,
        steadily (put-steady (paced_cell e) NO_FRAME t)
            (steadily (put-steady globals-cell (f (concrete.get globals-cell s)) s) k),
      );
}

pub law-set-paced : (e : ℕ) (on : Bool) → Law (other (SetPaced e on))
law-set-paced e on = quiet-law (other (SetPaced e on)) tt refl (λ _ _. refl) (λ _ _. tt) (q_staged 2 (q_test (q_bind
    (q-paced e on) (λ _. q_ret)) q_ret))

q-completions : {i : Bool} (n e : ℕ) → eqb e 0 ≡ false → LeavesLog (iso_in_completions {i = i} n e)
unfolding iso_in_completions
q-completions zero e h = q_ret
q-completions (suc n) e h = q_bind (q_complete e h) (λ _. q-completions n e h)

pub law-advance : (e : ℕ) → Law (other (Advance e))
law-advance e = quiet-law (other (Advance e)) tt refl
    (λ _ _. refl) (λ _ _. tt) (q_staged 2 (q_if (is_number e) (λ h. q_resultless (q_bind (q_got globals-cell)
    (λ g. q_when (q_test
    (q_bind (q-read-of (λ _ _. refl) (λ _. q_ret)) (λ frame. q_bind (q_got (paced_cell e))
    (λ last. q_bind (q-completions (completions last (index_of frame)) e (numbered e h).zero_not)
    (λ _. q_put (put_paced e (frame_of (index_of frame))) q_ret))))
    (q_put (put_paced e NO_FRAME) q_ret))))) (λ _. q_ret)))

-- ---- those that pass during an interrupt

q-aside : (o : Aside) → LeavesLog (aside_code o)
q-aside (Open e) = q_staged 2
    (q-named Out e (λ _. q_bind (q_got (ep-cell Out e)) (λ s. q-unless _ 11 (q_bind (q_is (λ _. q_ret))
    (λ b. q_test (q_bind (q_act refl q_ret) (λ _. q_bind (q_fetch (λ _. q_ret))
    (λ bytes. q_bind (q_look (λ _. q_ret)) (λ stamp. q_ret)))) q_ret)))))
q-aside (Close e) = q_staged 2 (q-named Out e (λ _. q_bind (q_is (λ _. q_ret))
    (λ b. q_test (q_bind (q_act refl q_ret) (λ _. q_ret)) q_ret)))
q-aside (Queue e bytes) = q_staged 2
    (q-named In e (λ _. q_enabled In e q_ret (q_bind (q_got allocator-cell)
    (λ a. q-unless _ 10 (q_bind (q_got (ep-cell In e))
    (λ s. q-unless _ 11 (q_bind (q_is (λ _. q_ret)) (λ b. q_test (q_bind (q_act refl q_ret) (λ _. q_ret)) q_ret))))))))

pub law-aside : (o : Aside) → Law (aside o)
law-aside o = quiet-law (aside o) tt refl (λ _ _. refl) (λ _ _. tt) (q-aside o)

ended-view : {A : Type 0} {w : Log} {v : View} {a : A} {t : St}
    → Watch Between Any {A = A} (λ _ _ t. (view t.0 ≡ v)) w (tree.ends a t) → view t.0 ≡ v
ended-view (at_end p) = p

pub aside-view : (o : Aside) (d : Driver) (b : Buf) (a : Answer) (t : St) → Sorting d
    → run concrete (aside_code o) (d, b) ≡ tree.ends a t → view t.0 ≡ view d
aside-view o d b a t z h = ended-view
    (subst (Watch Between Any (λ _ _ t. (view t.0 ≡ view d)) before) h
    (watch-more ((q-aside o).goes before (d, b) refl (plainly z)) (λ _ _ _ m. m.1)))

-- ---- halts

q-stalled : {i : Bool} (d : Dir) (e : ℕ) (on : Bool) → Numbered e → LeavesLog (bus.set_stalled {i = i} d e on)
q-stalled Out e true m = q_bind (q_reg Out e _ m.zero_not) (λ _. q_wake Out e)
q-stalled In e true m = q_bind (q_write (other_length_lem e 0 m.zero_not) q_ret)
    (λ _. q_bind (q_reg In e _ m.zero_not) (λ _. q_wake In e))
q-stalled Out e false m = q_bind (q_got (ep-cell Out e))
    (λ s. q_bind (q_put (put_other Out e m.apart (with_tog 0 s)) q_ret)
    (λ _. q_bind (q_write (other_word Out e _ m.zero_not) q_ret) (λ _. q_wake Out e)))
q-stalled In e false m = q_bind (q_got (ep-cell In e))
    (λ s. q_bind (q_put (put_other In e m.apart (with_tog 0 s)) q_ret)
    (λ _. q_bind (q_write (other_word In e _ m.zero_not) q_ret)
    (λ _. q_bind (q_when (q_ep In e _ m.apart)) (λ _. q_wake In e))))

-- a halt of EP0's exempts; of another endpoint's it is quiet
pub law-set-stalled : (d : Dir) (e : ℕ) (on : Bool) → Law (other (SetStalled d e on))
law-set-stalled d e on w s r z = by (eqb e 0) refl
  where
    by : (b : Bool) → eqb e 0 ≡ b
        → Watch Between (Allowed (other (SetStalled d e on))) (Ends (other (SetStalled d e on))) (afresh s.1 w)
        (run concrete (code (other (SetStalled d e on))) s)
    by false h = quiet-part
      where
        quiet-part : Watch Between (Allowed (other (SetStalled d e on)))
            (Ends (other (SetStalled d e on))) (afresh s.1 w) (run concrete (code (other (SetStalled d e on))) s)
        quiet-part = quiet-law (other (SetStalled d e on)) tt refl (λ _ x. ap (λ (b : Bool). cond b (exempted x) x) h)
            (λ _ _. tt)
            (q_staged 2 (q_if (eqb e 0) (λ q. differ (sym h ∙ q))
            (λ _. q-named d e (λ m. q_resultless (q-stalled d e on m))))) w s r z
    by true h = watch-cond (eqb s.0.globals.stage 2)
        (λ _. watch-cond (eqb e 0)
        (λ _. watch-bind ((l_bind {i = false} (l-stalled d e on) (λ _. l_ret {a = 0})).goes (afresh s.1 w)
        (concrete.act no_wakes s))
        (λ x n t l. at_end (
          exempt-if x (view t.0) (exempts (afresh s.1 w) x s t r (
            l.0,
            l.1
                ∙ ap base_of (act-view no_wakes refl s),
          )),
          tt,
        )))
        (λ q. differ (sym q ∙ h)))
        (λ _. at_end (r, tt))
      where
        exempt-if : (x : Log) (v : View) → R (exempted x) v → R (cond (eqb e 0) (exempted x) x) v
        exempt-if x v q = subst (λ (b : Bool). R (cond b (exempted x) x) v) (sym h) q

-- a bus reset exempts; the rest of a poll is quiet
pub law_bus_poll : Law (other BusPoll)
law_bus_poll w s r z = watch-cond (eqb s.0.globals.stage 2)
    (λ _. watch-bind {P = λ x n t. ((n ≡ 2) × Left (afresh s.1 w) s x t) ⊎ Stays (afresh s.1 w) s x t}
    (watch-cond (is_on s.0.globals.power)
    (λ _. at_ask tt (λ f a _ i. watch-cond (bus_rst f)
    (λ _. watch-bind (l-reset.goes (afresh s.1 w) a) (λ x _ t l. watch-bind ((l-int-en {i = false}
    (λ v. with_bus_rst v true)).goes x t)
    (λ y _ u m. at_end {s = u} (inl (
      refl,
      (further l.0 m.0, m.1 ∙ (l.1 ∙ ap base_of (i.0 ∙ act-view no_wakes refl s))),
    )))))
    (λ _. watch-cond (suspend f)
    (λ _. at_ask tt (λ m b _ j. at_ask tt (λ _ c _ l. at_ask tt (λ _ u _ n. at_end (inr (
      refl,
      n.0 ∙ (put_kept (λ g. with_int_en (with_suspend g.int_en true) g) (λ _. refl) c
          ∙ (l.0 ∙ (j.0 ∙ (i.0 ∙ act-view no_wakes refl s)))),
      plainly n.1,
    ))))))
    (λ _. at_end (inr (refl, i.0 ∙ act-view no_wakes refl s, plainly i.1))))))
    (λ _. at_end (inr (
      refl,
      put_kept (with_power 1) (λ _. refl) (concrete.act no_wakes s) ∙ act-view no_wakes refl s,
      steadily (put-steady globals-cell (with_power 1 s.0.globals) (concrete.act no_wakes s))
          (steadily (act-steady no_wakes refl s) (plainly z)),
    ))))
    (λ x n t p. at_end (after n x t p, tt)))
    (λ _. at_end (r, tt))
  where
    same : (b : Bool) (x : Log) (v : View) → R x v → R (cond b (exempted x) x) v
    same true x v q = (q.0, inl refl)
    same false x v q = q

    after : (n : ℕ) (x : Log) (t : St) → ((n ≡ 2) × Left (afresh s.1 w) s x t) ⊎ Stays (afresh s.1 w) s x t
        → R (cond (eqb n 2) (exempted x) x) (view t.0)
    after n x t (inl h) = subst (λ (m : ℕ). R (cond (eqb m 2) (exempted x) x) (view t.0)) (sym h.0) (exempts
        (afresh s.1 w) x s t r h.1)
    after n x t (inr m) = same (eqb n 2) x (view t.0)
        (subst (λ (y : Log). R y (view t.0)) (sym m.0) (subst (R w) (sym m.1) r))
