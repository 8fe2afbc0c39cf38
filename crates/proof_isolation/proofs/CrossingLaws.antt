-- Of one run: what the others get falls before the continue of an access or after it, at an access of the channel's
-- own: the run comes to the same, and the calls are answered the same
use Rattle.std.specs.Prelude.{Bool, true, false, not, cond, ◌&&◌, List, [], ◌∷◌, ◌≡◌, refl, ℕ, eqb, ltb, length}
use Rattle.std.proofs.Common.{true≢false, ap, subst, sym, ◌∙◌}
use Rattle.regs.specs.declared.Access.{Access}
use Rattle.regs.specs.declared.Dir.TheVariants.{Out, In}
use Rattle.regs.specs.Enables as enables
use Rattle.state.specs.Driver.{Driver, ep_on}
use Rattle.state.specs.Laws.{Sized}
use Rattle.script.specs.Tree as tree
use Rattle.script.specs.Tree.{ends, asks}
use Rattle.script.specs.Script.{run}
use Rattle.script.specs.Statics.{is_on}
use Rattle.script.specs.Answers.{Answer, Refused, Shown, ok, is_allocated}
use Rattle.script.specs.Simulates.{quiet}
use Rattle.script.specs.Calls.{calls, Open, Close, Queue, aside_code}
use Rattle.script.specs.Machine.{Ans, handed, told, awaited, busy, during_interrupt}
use Rattle.script_ops.specs.Rings.{St, waiting_on, room_on, opened_on, oldest_on, next_stamp, enqueue_on}
use Rattle.script_ops.specs.Concrete.{concrete}
use Rattle.machine.specs.Suspended.{driver_of}
use Rattle.calls.specs.Sharing as sharing
use Rattle.calls.specs.Sharing.{going, written, time_after}
use Rattle.proof_isolation.specs.EqualExcept.{Lawful, Channel}
use Rattle.proof_isolation.specs.Whose.{made_for, own_way}
use Rattle.proof_isolation.specs.Apart.{Its, status, receive}
use Rattle.proof_isolation.specs.Schedule.{Run, run_by, wide, at_own}
use Rattle.proof_isolation.proofs.Standing.{stops, run_of, another-made}
use Rattle.proof_isolation.proofs.Runs.{go_busy, aside-busy}
use Rattle.proof_isolation.specs.Late.{Light, opens, closes, queues, asks_of, stored, AnyStore, Other, answers_by}
use Rattle.proof_isolation.specs.Late.{lit, gone, lits}
use Rattle.proof_isolation.specs.Lights.{done_by, seen, open_answer, close_answer, queue_answer, answered, taken}
use Rattle.proof_isolation.specs.Lights.{done_at}
use Rattle.proof_isolation.proofs.LightsLaws.{open_is, close-is, oldest-opening, stamp-opening, lawful_done}
use Rattle.proof_isolation.specs.Does.{Did, Does, did_none, did_more}
use Rattle.proof_isolation.proofs.DoesLaws.{does_before, does_after}
use Rattle.proof_isolation.proofs.SlidesLaws.{made, Slid, slid_end, slid_ask, slid_lost, slid_seen, Free, FreeWay}
use Rattle.proof_isolation.proofs.SlidesLaws.{halt_free}

-- ---- what such a call is answered, and whether it changes anything

open-shape : (a b c d : Bool) (s : St) {t : St} {y : tree.Out St Answer} (x : Answer) → y ≡ ends x t
    → cond a (cond b (cond c (ends (Refused 11) s) (cond d y (ends (Refused 12) s))) (ends (Refused 5) s))
    (ends (Refused 4) s)
    ≡ ends (cond a (cond b (cond c (Refused 11) (cond d x (Refused 12))) (Refused 5)) (Refused 4))
    (cond (a && (b && (not c && d))) t s)
open-shape true true false true s x h = h
open-shape true true false false s x h = refl
open-shape true true true d s x h = refl
open-shape true false c d s x h = refl
open-shape false b c d s x h = refl

close-shape : (a b d : Bool) (s : St) {t : St} {y : tree.Out St Answer} → y ≡ ends ok t
    → cond a (cond b (cond d y (ends (Refused 14) s)) (ends (Refused 5) s)) (ends (Refused 4) s)
    ≡ ends (cond a (cond b (cond d ok (Refused 14)) (Refused 5)) (Refused 4)) (cond (a && (b && d)) t s)
close-shape true true true s h = h
close-shape true true false s h = refl
close-shape true false d s h = refl
close-shape false b d s h = refl

pub open-run : (e : ℕ) (s : St) → Sized s.0 → run concrete (aside_code (Open e)) s
    ≡ ends (open_answer e (seen (opens e) s)) (done_at (opens e) s)
open-run e s z = open-shape (eqb s.0.globals.stage 2) (is_allocated s.0.allocator Out e)
    (not (is_on (ep_on s.0 Out e).iso))
    (waiting_on s.0 Out e) s
    (Shown (oldest_on s.0 e s.1) (next_stamp s.0 e))
    (ap (λ (d : Driver). ends (Shown (oldest_on d e s.1) (next_stamp d e)) (d, s.1)) (open_is s.0 e)
    ∙ (λ i. ends (Shown (oldest-opening e s.0 z s.1 i) (stamp-opening e s.0 z i)) (done_by (opens e) s)))

pub close-run : (e : ℕ) (s : St) → run concrete (aside_code (Close e)) s
    ≡ ends (close_answer e (seen (closes e) s)) (done_at (closes e) s)
close-run e s = close-shape (eqb s.0.globals.stage 2) (is_allocated s.0.allocator Out e) (opened_on s.0 e) s
    (ap (λ (d : Driver). ends ok (d, s.1)) (close-is s.0 e))

queue-shape : (a b c d e f : Bool) (s t : St) →
    cond a (cond b (cond c (cond d (ends (Refused 10) s)
    (cond e (ends (Refused 11) s) (cond f (ends ok t) (ends (Refused 13) s))))
    (ends (Refused 9) s)) (ends (Refused 5) s)) (ends (Refused 4) s)
    ≡ ends (cond a (cond b (cond c (cond d (Refused 10) (cond e (Refused 11) (cond f ok (Refused 13)))) (Refused 9))
    (Refused 5)) (Refused 4))
    (cond (a && (b && (c && (not d && (not e && f))))) t s)
queue-shape true true true false false true s t = refl
queue-shape true true true false false false s t = refl
queue-shape true true true false true f s t = refl
queue-shape true true true true e f s t = refl
queue-shape true true false d e f s t = refl
queue-shape true false c d e f s t = refl
queue-shape false b c d e f s t = refl

pub queue-run : (e : ℕ) (bs : List ℕ) (s : St)
    → run concrete (aside_code (Queue e bs)) s ≡ ends (queue_answer e (length bs) (seen (queues e bs) s))
    (done_at (queues e bs) s)
queue-run e bs s = queue-shape (eqb s.0.globals.stage 2) (is_allocated s.0.allocator In e)
    (enables.is_on s.0.globals.ep_config In e) (ltb s.0.allocator.size (length bs))
    (not (is_on (ep_on s.0 In e).iso))
    (room_on s.0 e (length bs)) s (enqueue_on e bs s)

-- ---- runs, whatever they were answered last

abbrev pub answering : Ans Answer → Run → Run
answering a r = record { machine = r.machine; access = r.access; answer = a; time = r.time }

abbrev pub mute : Run → Run
mute r = answering (told 0) r

-- what it was answered last: a store has no answer
abbrev pub last_answer : Light → St → Ans Answer → Ans Answer
last_answer (opens e) s a = answered (opens e) (seen (opens e) s)
last_answer (closes e) s a = answered (closes e) (seen (closes e) s)
last_answer (queues e bs) s a = answered (queues e bs) (seen (queues e bs) s)
last_answer (asks_of q) s a = answered (asks_of q) (seen (asks_of q) s)
last_answer (stored p) s a = a

pub same-answers : (o : Light) (s : St) (a : Ans Answer) (us : List (Ans Answer))
    → answers_by o (last_answer o s a) us ≡ answers_by o (answered o (seen o s)) us
same-answers (opens e) s a us = refl
same-answers (closes e) s a us = refl
same-answers (queues e bs) s a us = refl
same-answers (asks_of q) s a us = refl
same-answers (stored p) s a us = refl

-- made for another it is not made for x
pub made_other : (e x : ℕ) → eqb e x ≡ false → {A : Type 0} {q : Access} {o : tree.Out St A} → Its e q o → made_for x q o
    ≡ false
made_other e x n status = n
made_other e x n receive = n

module _ (c : Channel) where
  pub lawful-at : (o : Light) (s : St) → Other c o s.0 → Lawful c.iso quiet s
      → Lawful c.iso quiet (done_at o s)
  lawful-at o s n l = by (taken o (seen o s))
    where
      by : (b : Bool) → Lawful c.iso quiet (cond b (done_by o s) s)
      by true = lawful_done c o s n l
      by false = l

  module _ (share : Bool) (n : ℕ) where
    pub lit_is : (o : Light) (p : Access) (s : St) (g : ℕ → St → tree.Out St Answer) (q : Access) (a : Ans Answer)
        (τ : List ℕ) → Lawful c.iso quiet s
        → lit share n o (run_of true (asks p s g) q a τ) ≡ run_of true (asks p (done_at o s) g) q (last_answer o s a) τ
    lit_is (opens e) p s g q a τ l = ap (λ y. run_by p (y, time_after n sharing.apart y.0 s.0 τ))
        (aside-busy c s s.1 l (Open e) true refl p g
        ∙ ap (λ y. during_interrupt calls driver_of (record {
          under_way_lem = busy true (awaited p) g;
          st = s.0;
          buf
              = s.1;
        }) y) (open-run e s l.rest.sized))
    lit_is (closes e) p s g q a τ l = ap (λ y. run_by p (y, time_after n sharing.apart y.0 s.0 τ))
        (aside-busy c s s.1 l (Close e) true refl p g
        ∙ ap (λ y. during_interrupt calls driver_of (record {
          under_way_lem = busy true (awaited p) g;
          st = s.0;
          buf
              = s.1;
        }) y) (close-run e s))
    lit_is (queues e bs) p s g q a τ l = ap (λ y. run_by p (y, time_after n sharing.apart y.0 s.0 τ))
        (aside-busy c s s.1 l (Queue e bs) true refl p g
        ∙ ap (λ y. during_interrupt calls driver_of (record {
          under_way_lem = busy true (awaited p) g;
          st = s.0;
          buf
              = s.1;
        }) y) (queue-run e bs s))
    lit_is (asks_of w) p s g q a τ l = refl
    lit_is (stored w) p s g q a τ l = refl

    pub gone-is : (v : ℕ) (p : Access) (s : St) (g : ℕ → St → tree.Out St Answer) (q : Access) (a : Ans Answer)
        (τ : List ℕ) → Lawful c.iso quiet s
        → wide (busy true (awaited p) g) v ≡ false
        → gone share n v (run_of true (asks p s g) q a τ)
        ≡ run_of true (g v s) p (stops true (g v s)).0 (time_after n going (stops true (g v s)).0 s.0 τ)
    gone-is v p s g q a τ l w = ap (λ y. run_by p (y, time_after n going y.0 s.0 τ))
        (go_busy c s s.1 l true p g v w)

    -- a run at an access of an interrupt, that gets these
    pub data Gets (os : List Light) (us : List (Ans Answer)) : Run → Type 0 where
      gets_at : (p : Access) (g : ℕ → St → tree.Out St Answer) (q : Access) (a : Ans Answer) (τ : List ℕ) {s t : St}
          → Does c os us s t
          → FreeWay c (busy true (awaited p) g) → Gets os us (run_of true (asks p s g) q a τ)

    -- at an access of the channel's own, whatever its state
    pub record OwnSome (r : Run) : Type 0 where
      pub state : St
      pub is : own_way c.number r.access r.machine.under_way_lem state ≡ true

    pub own_some : (r : Run) → at_own c r ≡ true → OwnSome r
    own_some r h = record { state = (r.machine.st, r.machine.buf); is = h }

    -- ---- a run that gets them

    lits_mute : (os : List Light) (r r' : Run) → mute r ≡ mute r' → mute (lits share n os r) ≡ mute (lits share n os r')
    lits_mute [] r r' h = h
    lits_mute (opens e ∷ os) r r' h = ap (λ z. mute (lits share n os (lit share n (opens e) z))) h
    lits_mute (closes e ∷ os) r r' h = ap (λ z. mute (lits share n os (lit share n (closes e) z))) h
    lits_mute (queues e bs ∷ os) r r' h = ap (λ z. mute (lits share n os (lit share n (queues e bs) z))) h
    lits_mute (asks_of q ∷ os) r r' h = ap (λ z. mute (lits share n os (lit share n (asks_of q) z))) h
    lits_mute (stored p ∷ os) r r' h = lits_mute os (lit share n (stored p) r) (lit share n (stored p) r')
        (ap (λ z. lit share n (stored p) z) h)

    pub did_lit : (p : Access) (g : ℕ → St → tree.Out St Answer) (q : Access) (a : Ans Answer) (τ : List ℕ) {o : Light}
        {b : Ans Answer} {s t : St}
        → Did c o b s t → lit share n o (run_of true (asks p s g) q a τ) ≡ run_of true (asks p t g) q (last_answer o s a) τ
    did_lit p g q a τ {o} {s = s} d = lit_is o p s g q a τ d.before
        ∙ ap (λ t. run_of true (asks p t g) q (last_answer o s a) τ) (sym d.is)

    pub does_lits : (p : Access) (g : ℕ → St → tree.Out St Answer) (q : Access) (a : Ans Answer) (τ : List ℕ)
        {os : List Light} {us : List (Ans Answer)} {s t : St}
        → Does c os us s t → mute (lits share n os (run_of true (asks p s g) q a τ))
        ≡ mute (run_of true (asks p t g) q a τ)
    does_lits p g q a τ (did_none l) = refl
    does_lits p g q a τ (did_more {o = o} {os = os} {s = s} {t = t} d k e) =
        ap (λ z. mute (lits share n os z)) (did_lit p g q a τ d) ∙ does_lits p g q (last_answer o s a) τ k

    pub lits_own : {os : List Light} {us : List (Ans Answer)} {r : Run} → Gets os us r → OwnSome r
        → OwnSome (lits share n os r)
    lits_own {os} (gets_at p g q a τ {s = s} d f) h =
        let y = subst OwnSome (sym (does_lits p g q a τ d)) (record { state = h.state; is = h.is }) in record
        { state = y.state; is = y.is }

    -- ---- the law

    pub record Crosses (os : List Light) (us : List (Ans Answer)) (v : ℕ) (r : Run) : Type 0 where
      pub muted : mute (lits share n os (gone share n v r)) ≡ mute (gone share n v (lits share n os r))
      pub still : Gets os us (gone share n v r)

    module _ (p : Access) (g : ℕ → St → tree.Out St Answer) (q : Access) (a : Ans Answer) (τ : List ℕ) {os : List Light}
        {us : List (Ans Answer)} {s t : St}
        (d : Does c os us s t) (f : FreeWay c (busy true (awaited p) g)) (v : ℕ) (w : wide (busy true (awaited p) g) v
        ≡ false) where
      abbrev r : Run
      r = run_of true (asks p s g) q a τ

      abbrev outcome : St → tree.Out St Answer → Run
      outcome z y = run_of true y p (stops true y).0 (time_after n going (stops true y).0 z.0 τ)

      early : gone share n v (lits share n os r) ≡ outcome t (g v t)
      early = ap (λ z. gone share n v z) (does_lits p g q a τ d) ∙ gone-is v p t g q a τ (does_after c d) w

      crosses_by : {y u : tree.Out St Answer} → Slid c os us true y u → g v s ≡ y → g v t ≡ u → OwnSome (outcome s y)
          → (AnyStore os → OwnSome (outcome t u)) → Crosses os us v r
      crosses_by (slid_end k) ey eu h m = absurd (true≢false (sym h.is))
      crosses_by (slid_lost k) ey eu h m = absurd (true≢false (sym h.is ∙ another-made (k h.state)))
      crosses_by (slid_seen e z b (made k) l) ey eu h m
          = absurd (true≢false (sym (m b).is ∙ made_other e c.number z (k (m b).state)))
      crosses_by (slid_ask {q = q1} {s = s1} {t = t1} {k = k1} x) ey eu h m = record {
        muted = ap (λ z. mute (lits share n os z)) went ∙ does_lits q1 k1 p (handed q1) (written n q1 τ) x
            ∙ sym (ap mute (early ∙ ap (outcome t) eu));
        still = subst (Gets os us) (sym went) (gets_at q1 k1 p (handed q1) (written n q1 τ) x
            (halt_free c (subst (Free c true) ey (f.0 v s (does_before c d)))));
      }
        where
          went : gone share n v r ≡ outcome s (asks q1 s1 k1)
          went = gone-is v p s g q a τ (does_before c d) w ∙ ap (outcome s) ey

      crosses_at : OwnSome (gone share n v r) → (AnyStore os → OwnSome (gone share n v (lits share n os r)))
          → Crosses os us v r
      crosses_at h m = crosses_by (f.1 os us v s t d) refl refl
          (subst OwnSome (gone-is v p s g q a τ (does_before c d) w) h)
          (λ b. subst OwnSome early (m b))

    pub crosses : {os : List Light} {us : List (Ans Answer)} {r : Run} → Gets os us r → (v : ℕ)
        → wide r.machine.under_way_lem v ≡ false
        → OwnSome (gone share n v r) → (AnyStore os → OwnSome (gone share n v (lits share n os r))) → Crosses os us v r
    crosses (gets_at p g q a τ d f) v w h m = crosses_at p g q a τ d f v w h m
