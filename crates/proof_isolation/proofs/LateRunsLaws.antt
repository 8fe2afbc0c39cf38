-- "One channel's data can't disturb another" (request Fourteen), where some of the others' calls fall late in one run
use Rattle.std.specs.Prelude.{Bool, true, false, cond, ◌&&◌, List, [], ◌∷◌, ◌⊎◌, ◌≡◌, refl, ℕ, zero, suc}
use Rattle.std.proofs.Common.{true≢false, inl, inr, ap, subst, sym, ◌∙◌, arith}
use Rattle.regs.specs.declared.Access.{Access}
use Rattle.state.specs.Driver.{Driver}
use Rattle.script.specs.Tree as tree
use Rattle.script.specs.Tree.{ends, asks}
use Rattle.script.specs.Script.{run}
use Rattle.script.specs.Answers.{Answer, Refused}
use Rattle.script.specs.Simulates.{quiet, mid}
use Rattle.script.specs.Calls.{Config, Op, interrupt, irq, aside, calls, start_row, Aside, Open, Close, Queue, aside_code}
use Rattle.script.specs.Machine as machine
use Rattle.script.specs.Machine.{Buf, pending, Call, start, begin, continue, question, Ans, ended, told, awaited}
use Rattle.script.specs.Machine.{Pending, idle, busy, lent_to}
use Rattle.script_ops.specs.Rings.{St}
use Rattle.script_ops.specs.Concrete.{concrete}
use Rattle.machine.specs.Suspended.{driver_of, drive}
use Rattle.answer.specs.Goes.{StepResult}
use Rattle.calls.specs.Sharing as sharing
use Rattle.calls.specs.Sharing.{going, sort_of, time_after, turned_down}
use Rattle.proof_wake_ups.specs.Rooms.{Few, Roomy, Rooms}
use Rattle.proof_wake_ups.proofs.RoomsLaws.{rooms, room}
use Rattle.state.specs.WakesLaws.{Room}
use Rattle.proof_isolation.specs.EqualExcept.{Lawful, Channel, LowEquiv, Touched}
use Rattle.proof_isolation.specs.LikesLaws.{like-refl, like-sym, touched-refl, touched-trans, touch}
use Rattle.proof_isolation.specs.Operations.{OfChannel, polls, passes}
use Rattle.proof_isolation.specs.Asides.{Others}
use Rattle.proof_isolation.specs.Stores.{Stored, OwnLent, patched}
use Rattle.proof_isolation.proofs.AloneLaws.{lawful-rests, lawful-busy}
use Rattle.proof_isolation.specs.Apart.{gone, waits, ApartBy, end, both, left, right, owns}
use Rattle.proof_isolation.specs.Answers.{SameAnswer}
use Rattle.proof_isolation.specs.PairsLaws.{brings-sym}
use Rattle.proof_isolation.specs.Ending.{Finished, fin}
use Rattle.proof_isolation.proofs.AsidesLaws.{p-aside, own-finishes}
use Rattle.proof_isolation.specs.StoresLaws.{lent_back, own-lent-back, lawful-stored, lent-like, own_like}
use Rattle.proof_isolation.proofs.OthersLaws.{same-answers}
use Rattle.proof_isolation.specs.Schedule.{Run, Two, Turn, begins, goes, asked, stores, others_time, first}
use Rattle.proof_isolation.specs.Schedule.{second, gets}
use Rattle.proof_isolation.specs.Schedule.{called, apart, alone, turn, after, run_by, own_by, at_own, go_on}
use Rattle.proof_isolation.specs.Schedule.{own_lent, SameAns, same}
use Rattle.proof_isolation.specs.Schedule.{stored_in, first-refused, second-refused, After, Timely, Refuses}
use Rattle.proof_isolation.specs.Schedule.{back_row1, back_lent}
use Rattle.proof_isolation.specs.Schedule.{state_of, unfit, BothCall, call_row1, call_lent, BothGo, go_row1}
use Rattle.proof_isolation.specs.Schedule.{go_row16, OwnCall, own_row1, Alone, May, Allowed}
use Rattle.proof_isolation.proofs.Standing.{machine_of, run_of, own-yes, own-no, same-ans, ans-sym, At, at}
use Rattle.proof_isolation.proofs.StandingLaws.{past-no}
use Rattle.proof_isolation.proofs.StandingLaws.{at-stands, at-lined, at-alike, at-time, at-swap}
use Rattle.proof_isolation.proofs.Runs.{goes_by, spares-put, go-wide, go-unfit, begin-unfit, aside-busy, row_one}
use Rattle.proof_isolation.proofs.PartingLaws.{parted}
use Rattle.proof_isolation.specs.Undisturbed.{Session, opened, Opens}
use Rattle.proof_isolation.proofs.UndisturbedLaws.{step, always, stands_after}
use Rattle.proof_isolation.proofs.UndisturbedLaws.{opened-at}
use Rattle.proof_isolation.specs.Late as late
use Rattle.proof_isolation.specs.Late.{Light, opens, closes, queues, asks_of, stored, Item, stopped, goes_own}
use Rattle.proof_isolation.specs.Late.{stores_own, calls_own, goes_back}
use Rattle.proof_isolation.specs.Late.{Common, common, row1, common_of, lights_in, lights_of, answers_by}
use Rattle.proof_isolation.specs.Late.{Later, timely, first-late, second-late, lit, lits, item, items}
use Rattle.proof_isolation.specs.Late.{item_answers, later, after_all}
use Rattle.proof_isolation.specs.Late.{Other, Continues, Stays, Before, AtOwn, Late, MayLate, AllowedLate}
use Rattle.proof_isolation.specs.Late.{AllSame, none, more, Heard, AfterLate, EveryLate, LateSession, AllOpenLate}
use Rattle.proof_isolation.specs.Late.{UndisturbedLate}
use Rattle.proof_isolation.specs.Lights.{done_by, seen, answered, taken, done_at}
use Rattle.proof_isolation.proofs.QueuesLaws.{patch-like}
use Rattle.proof_isolation.proofs.LightsLaws.{seen-touched, wakes-same, still_other, but_reach, stored_patch}
use Rattle.proof_isolation.specs.Does.{Does, did_none, did_more}
use Rattle.proof_isolation.proofs.DoesLaws.{does_before, does_wakes_same}
use Rattle.proof_isolation.proofs.SlidesLaws.{FreeWay, Needs, LentLawful, drive_free}
use Rattle.proof_isolation.proofs.CrossingLaws as crossing
use Rattle.proof_isolation.proofs.CrossingLaws.{open-run, close-run, queue-run, answering, mute, last_answer}
use Rattle.proof_isolation.proofs.CrossingLaws.{lit_is, Gets, gets_at, OwnSome, own_some}
use Rattle.proof_isolation.proofs.CrossingLaws.{did_lit, does_lits, lits_own, crosses}

-- ---- the answers of what both get, by those of what the others get

abbrev heads : List (Ans Answer) → (List (Ans Answer) → List (Ans Answer)) → List (Ans Answer)
heads [] f = f []
heads (a ∷ us) f = a ∷ f us

abbrev by_light : Light → List (Ans Answer) → (List (Ans Answer) → List (Ans Answer)) → List (Ans Answer)
by_light (opens e) us f = heads us f
by_light (closes e) us f = heads us f
by_light (queues e bs) us f = heads us f
by_light (asks_of q) us f = heads us f
by_light (stored p) us f = f us

abbrev pub woven : List Common → List (Ans Answer) → List (Ans Answer)
woven [] us = []
woven (common o ∷ cs) us = by_light o us (λ vs. woven cs vs)
woven (row1 o ∷ cs) us = ended (Refused 1) ∷ woven cs us

woven-light : (o : Light) (a : Ans Answer) (us : List (Ans Answer)) (cs : List Common) → answers_by o a (woven cs us)
    ≡ woven (common o ∷ cs) (answers_by o a us)
woven-light (opens e) a us cs = refl
woven-light (closes e) a us cs = refl
woven-light (queues e bs) a us cs = refl
woven-light (asks_of q) a us cs = refl
woven-light (stored p) a us cs = refl

heads-same : {x : ℕ} {us vs : List (Ans Answer)} (f : List (Ans Answer) → List (Ans Answer))
    → ((us vs : List (Ans Answer)) → AllSame x us vs → AllSame x (f us) (f vs)) → AllSame x us vs
    → AllSame x (heads us f) (heads vs f)
heads-same f h none = h [] [] none
heads-same f h (more a k) = more a (h _ _ k)

woven-same : {x : ℕ} (cs : List Common) (us vs : List (Ans Answer)) → AllSame x us vs
    → AllSame x (woven cs us) (woven cs vs)
woven-same [] us vs h = none
woven-same (common (opens e) ∷ cs) us vs h = heads-same (λ us. woven cs us) (λ us vs k. woven-same cs us vs k) h
woven-same (common (closes e) ∷ cs) us vs h = heads-same (λ us. woven cs us) (λ us vs k. woven-same cs us vs k) h
woven-same (common (queues e bs) ∷ cs) us vs h = heads-same (λ us. woven cs us) (λ us vs k. woven-same cs us vs k) h
woven-same (common (asks_of q) ∷ cs) us vs h = heads-same (λ us. woven cs us) (λ us vs k. woven-same cs us vs k) h
woven-same (common (stored p) ∷ cs) us vs h = woven-same cs us vs h
woven-same (row1 o ∷ cs) us vs h = more (same (ended (Refused 1))) (woven-same cs us vs h)

-- ---- what the others get in both, at one access

ended-like : {c : Channel} {st : ℕ} {i m : Bool} {Q : Answer → Answer → Type 0} {a b : Answer} {s t : St}
    → ApartBy c st i Q m (ends a s) (ends b t)
    → Q a b × LowEquiv c quiet s t
ended-like (end q l) = (q, l)

told-alike : {x m n : ℕ} → m ≡ n → SameAns x (told m) (told n)
told-alike {x} {m} e = subst (λ k. SameAns x (told m) (told k)) e (same (told m))

record SameLate (c : Channel) (o : Light) (s t : St) : Type 0 where
  like : LowEquiv c quiet (done_at o s) (done_at o t)
  same_told : Few (answered o (seen o s)) → Few (answered o (seen o t))
      → SameAns c.number (answered o (seen o s)) (answered o (seen o t))

-- by the call's script
aside-both : (c : Channel) (st : ℕ) (o : Aside) → Others c.number o → {s t s' t' : St} {a b : Answer}
    → LowEquiv c quiet s t
    → run concrete (aside_code o) s ≡ ends a s' → run concrete (aside_code o) t ≡ ends b t' → SameAnswer c.number a b
    × LowEquiv c quiet s' t'
aside-both c st o n {s} {t} {s'} {a = a} l e e' = ended-like
    (subst (λ u. ApartBy c st false (SameAnswer c.number) false (ends a s') u) e'
    (subst (λ u. ApartBy c st false (SameAnswer c.number) false u (run concrete (aside_code o) t)) e
    ((p-aside c st o n).on s t l)))

light-both : (c : Channel) (st : ℕ) (o : Light) {s t : St} → Other c o s.0 → Other c o t.0 → LowEquiv c quiet s t
    → SameLate c o s t
light-both c st (opens e) {s} {t} n n' l =
    let y = aside-both c st (Open e) n l (open-run e s l.left.rest.sized) (open-run e t l.right.rest.sized) in
    record { like = y.1; same_told = λ f g. same-ans y.0 f g }
light-both c st (closes e) {s} {t} n n' l =
    let y = aside-both c st (Close e) n l (close-run e s) (close-run e t) in record {
      like = y.1;
      same_told
          = λ f g. same-ans y.0 f g;
    }
light-both c st (queues e bs) {s} {t} n n' l =
    let y = aside-both c st (Queue e bs) n l (queue-run e bs s) (queue-run e bs t) in record {
      like = y.1;
      same_told
          = λ f g. same-ans y.0 f g;
    }
light-both c st (asks_of q) n n' l = record { like = l; same_told = λ f g. told-alike (same-answers l q n) }
light-both c st (stored p) {s} {t} n n' l = record {
  like = lent-like l (record {
    left = stored_patch c s p n;
    right = stored_patch c t p n';
    same = λ k o e. (patch-like p s.1 t.1 k (l.bytes.long, e)).1;
  });
  same_told = λ f g. same (told 0);
}

-- ---- where a run stands at an access of the channel's own

-- its state and what it was answered last
abbrev restate : St → Ans Answer → Run → Run
restate s a r = record {
  machine = record { under_way_lem = r.machine.under_way_lem; st = s.0; buf = s.1 };
  access
      = r.access;
  answer = a;
  time = r.time;
}

module _ {c : Channel} where
  pub own-now : (share : Bool) (n : ℕ) {w : Two} → At c w → OwnSome c share n w.first → at_own c w.first ≡ true
  own-now share n (at st i (end x l) q q' h k k' e) m = absurd (true≢false (sym m.is))
  own-now share n (at st i (both {s = s} {k = g} φ z p p' l f) q q' h k k' e) m
      = absurd (true≢false (sym m.is ∙ own-no c.number g m.state p))
  own-now share n (at st i (left {s = s} {k = g} w p z f) q q' h k k' e) m = own-yes c.number g s w
  own-now share n (at st i (right w gone z f) q q' h k k' e) m = absurd (true≢false (sym m.is))
  own-now share n (at st i (right w (waits {k = g} y) z f) q q' h k k' e) m = absurd
      (true≢false (sym m.is ∙ own-no c.number g {i = i} m.state (λ _. y c.number (omega arith))))
  own-now share n (at st i (owns {s = s} {k = g} w w' l f f') q q' h k k' e) m = own-yes c.number g s w

  -- what becomes of the channel's data and what it was answered last do not matter
  touched-own : {w : Two} → At c w → at_own c w.first ≡ true → {s : St} → Touched c quiet (state_of w.first) s
      → (a : Ans Answer) → Few a
      → Roomy (restate s a w.first).machine → At c
      (record { first = restate s a w.first; second = w.second; status = w.status })
  touched-own (at st i (end x l) q q' h k k' e) m d a f r = absurd (true≢false (sym m))
  touched-own (at st i (both {s = s} {k = g} φ z p p' l y) q q' h k k' e) m d a f r
      = absurd (true≢false (sym m ∙ own-no c.number g s p))
  touched-own (at st i (left w p z y) q q' h k k' e) m {s} d a f r
      = at st i (left w p d.right (λ v s u. y v s (touched-trans d u))) q q' h
      (record { spares = λ j. spares-put s (k.spares j); few = f; room = r }) k' e
  touched-own (at st i (right w p z y) q q' {a = b} {t = τ} h k k' e) m d a f r
      = absurd (true≢false (sym m ∙ past-no c i q b τ p))
  touched-own (at st i (owns w w' l y y') q q' h k k' e) m {s} d a f r = at st i (owns w w' (touch d l) y y') q q' tt
      (record { spares = λ j. spares-put s (k.spares j); few = f; room = r }) k' e

  own-lawful : {w : Two} → At c w → at_own c w.first ≡ true → Lawful c.iso quiet (state_of w.first)
      × Roomy w.first.machine
  own-lawful (at st i (end x l) q q' h k k' e) m = absurd (true≢false (sym m))
  own-lawful (at st i (both {s = s} {k = g} φ z p p' l y) q q' h k k' e) m
      = absurd (true≢false (sym m ∙ own-no c.number g s p))
  own-lawful (at st i (left w p z y) q q' h k k' e) m = (z, k.room)
  own-lawful (at st i (right w p z y) q q' {a = b} {t = τ} h k k' e) m
      = absurd (true≢false (sym m ∙ past-no c i q b τ p))
  own-lawful (at st i (owns w w' l y y') q q' h k k' e) m = (l.left, k.room)

module _ (c : Channel) where
  -- ---- what the others get, where the channel's data alone is touched

  touched-light : (o : Light) {s t : St} → Other c o s.0 → Touched c quiet s t → Room s.0.wakes
      → Touched c quiet (done_at o s) (done_at o t)
  touched-light o {s} {t} n m r =
      let l = like-sym (touch m (like-refl m.left r)) in
      let y = (light-both c 0 o n (still_other c m.left (but_reach c m.but) o n) l).like in
      record {
        left = y.left;
        right = y.right;
        but = record {
          globals = y.but.globals;
          allocator = y.but.allocator;
          control = y.but.control;
          paced = y.but.paced;
          wakes = at_wakes s m.left ∙ m.but.wakes ∙ sym (at_wakes t m.right);
          requests = y.but.requests;
          eps = y.but.eps;
          lens = y.but.lens;
          stamps = y.but.stamps;
          own = y.but.own;
        };
        bytes = y.bytes;
      }
    where
      at_wakes : (s : St) → Lawful c.iso quiet s → (done_at o s).0.wakes ≡ s.0.wakes
      at_wakes s l = by (taken o (seen o s))
        where
          by : (u : Bool) → (cond u (done_by o s) s).0.wakes ≡ s.0.wakes
          by true = wakes-same c o s l
          by false = refl

  record DoesTo (os : List Light) (us : List (Ans Answer)) (s t : St) : Type 0 where
    after : St
    does : Does c os us s after
    touched : Touched c quiet t after

  does_touched : {os : List Light} {us : List (Ans Answer)} {s t s' : St} → Does c os us s t → Touched c quiet s s'
      → Room s.0.wakes → DoesTo os us s' t
  does_touched (did_none l) m r = record { after = _; does = did_none m.right; touched = m }
  does_touched {s' = s'} (did_more {o = o} {s = s} {t = t} d k e) m r =
      let n = still_other c d.before (but_reach c m.but) o d.other in
      let x : Touched c quiet t (done_at o s') = subst (λ t. Touched c quiet t (done_at o s')) (sym d.is)
      (touched-light o d.other m r) in
      let y = does_touched k x (subst Room (sym (does_wakes_same c (did_more d (did_none d.after) refl))) r) in
      record {
        after = y.after;
        does = did_more (record {
          before = m.right;
          after = x.right;
          other = n;
          is = refl;
          told = ap (answered o) (sym (seen-touched c m o d.other)) ∙ d.told;
        }) y.does e;
        touched = y.touched;
      }

module _ (c : Channel) (share : Bool) (n : ℕ) where
  abbrev beside : ℕ → Run → Run → Two
  beside st r r' = record { first = r; second = r'; status = st }

  -- ---- room for wake-ups

  pub record Roomed (r : Run) : Type 0 where
    pub machine : Roomy r.machine
    pub few : Few r.answer

  lit_roomed : (o : Light) (r : Run) → Roomed r → Roomed (lit share n o r)
  lit_roomed (opens e) r k = let x = rooms (begin (aside (Open e))) k.machine r.machine.buf in record
      { machine = x.machine; few = x.answer }
  lit_roomed (closes e) r k = let x = rooms (begin (aside (Close e))) k.machine r.machine.buf in record
      { machine = x.machine; few = x.answer }
  lit_roomed (queues e bs) r k = let x = rooms (begin (aside (Queue e bs))) k.machine r.machine.buf in record
      { machine = x.machine; few = x.answer }
  lit_roomed (asks_of q) r k = let x = rooms (question q) k.machine r.machine.buf in record
      { machine = x.machine; few = x.answer }
  lit_roomed (stored p) r k = record {
    machine = (rooms (question (pending 0)) k.machine
        (patched p r.machine.buf)).machine;
    few = k.few;
  }

  lits_roomed : (os : List Light) (r : Run) → Roomed r → Roomed (lits share n os r)
  lits_roomed [] r k = k
  lits_roomed (o ∷ os) r k = lits_roomed os (lit share n o r) (lit_roomed o r k)

  gone_roomed : (v : ℕ) (r : Run) → Roomed r → Roomed (late.gone share n v r)
  gone_roomed v r k = let x = rooms (continue v) k.machine r.machine.buf in record {
    machine = x.machine;
    few
        = x.answer;
  }

  -- ---- the channel's own calls, at an access of its own

  record Acts (p : Access) (g : ℕ → St → tree.Out St Answer) (q : Access) (a : Ans Answer) (τ : List ℕ) (s : St)
      (r : Run) : Type 0 where
    after : St
    answer : Ans Answer
    is : r ≡ run_of true (asks p after g) q answer τ
    touched : Touched c quiet s after
    roomed : Roomed (run_of true (asks p s g) q a τ) → Roomed (run_of true (asks p after g) q answer τ)

  module _ (p : Access) (g : ℕ → St → tree.Out St Answer) (q : Access) (a : Ans Answer) (τ : List ℕ) (s : St)
      (l : Lawful c.iso quiet s) where
    abbrev here : Run
    here = run_of true (asks p s g) q a τ

    acts_aside : (o : Aside) (b : Buf) → OwnLent c s b → {y : tree.Out St Answer}
        → Finished (Touched c quiet (s.0, b)) y
        → run concrete (aside_code o) (s.0, b) ≡ y → Acts p g q a τ s (alone share n (begin (aside o)) b here)
    acts_aside o b h (fin x {s = t} m) e = record {
      after = t;
      answer = a;
      is = ap (λ y. own_by p a (y, time_after n sharing.apart y.0 s.0 τ)) goes;
      touched = touched-trans (own_like l h) m;
      roomed = λ k. record {
        machine = (subst Rooms goes (rooms (begin (aside o)) k.machine b)).machine;
        few
            = k.few;
      };
    }
      where
        goes : drive (begin (aside o)) (machine_of (busy true (awaited p) g) s) b
            ≡ (ended x, machine_of (busy true (awaited p) g) t)
        goes = aside-busy c s b (own_like l h).right o true refl p g
            ∙ ap (λ y. machine.during_interrupt calls driver_of (machine_of (busy true (awaited p) g) (s.0, b)) y) e

    -- those that are refused leave it as it was, but for its last answer and the bytes of the channel's slots
    backs : (v : ℕ) (b : Buf) → Refuses c v here b → Acts p g q a τ s (apart share n (continue v) b here)
    backs v b (back_row1 x) = record {
      after = s;
      answer = a;
      is = ap (λ y. own_by p a (y, time_after n going y.0 s.0 τ)) (go-unfit here v b x);
      touched = touched-refl l;
      roomed = λ k. k;
    }
    backs v b (back_lent x h) = record {
      after = (s.0, b);
      answer = a;
      is = ap (λ y. own_by p a (y, time_after n going y.0 s.0 τ))
          (go-wide c s b (own_like l h).right true p g v x);
      touched = own_like l h;
      roomed = λ k. record { machine = (rooms (question (pending 0)) k.machine b).machine; few = k.few };
    }

    stops_at : (o : Aside) (b : Buf) → unfit (begin (aside o)) here b ≡ true
        → Acts p g q a τ s (called share n (begin (aside o)) b here)
    stops_at o b x = record {
      after = s;
      answer = ended (Refused 1);
      is = ap (λ y. run_by p y) (row_one share n (begin (aside o)) (machine_of (busy true (awaited p) g) s) τ b
          (begin-unfit here (aside o) b x));
      touched = touched-refl l;
      roomed = λ k. record { machine = k.machine; few = tt };
    }

    stores_at : (b : Buf) → OwnLent c s b → Acts p g q a τ s (stored_in b here)
    stores_at b h = record {
      after = (s.0, b);
      answer = a;
      is = refl;
      touched = own_like l h;
      roomed = λ k. record { machine = (rooms (question (pending 0)) k.machine b).machine; few = k.few };
    }

    acts : (d : Call Config Op) (b : Buf) → Stays c d b here → Acts p g q a τ s (alone share n d b here)
    acts (continue v) b m = absurd m
    acts (begin o) b m = by m.0 m.1 m.2
      where
        by : {o : Op} → OfChannel c.number o → Timely (busy true (awaited p) g) o → OwnCall c (begin o) here b
            → Acts p g q a τ s (alone share n (begin o) b here)
        by (polls e v k) y z = absurd y
        by (passes o k) y (own_row1 z) = record {
          after = s;
          answer = a;
          is = ap (λ y. own_by p a (y, time_after n sharing.apart y.0 s.0 τ)) (begin-unfit here (aside o) b z);
          touched = touched-refl l;
          roomed = λ k. k;
        }
        by (passes o k) y (own_lent h) = acts_aside o b h (own-finishes c o k (s.0, b) (own_like l h).right) refl
    acts (start k) b m = by (start_row k b) refl
      where
        by : (r : ℕ) → start_row k b ≡ r → Acts p g q a τ s (alone share n (start k) b here)
        by zero z = absurd (m z)
        by (suc r) z = record {
          after = s;
          answer = a;
          is = ap (λ r. own_by p a (
            machine.started calls driver_of (λ s. s) k r (machine_of (busy true (awaited p) g) s) b,
            time_after n sharing.starting (machine.started calls driver_of (λ s. s) k r
                (machine_of (busy true (awaited p) g) s) b).0 s.0 τ,
          )) z;
          touched = touched-refl l;
          roomed = λ k. k;
        }
    acts (question d) b m = record {
      after = s;
      answer = a;
      is = ap (λ b. alone share n (question d) b here) m;
      touched = touched-refl l;
      roomed = λ k. k;
    }

  -- row 1 says so
  stopped_answer : (o : Aside) (b : Buf) (r : Run) → unfit (begin (aside o)) r b ≡ true
      → (item share n (stopped o b) r).answer ≡ ended (Refused 1)
  stopped_answer o b r h =
      ap (λ y. (run_by r.access y).answer) (row_one share n (begin (aside o)) r.machine r.time b
      (begin-unfit r (aside o) b h))

  -- ---- the late run: as if what the others get had come before

  through_own : (is : List Item) (r : Run) → AtOwn c share n is r → at_own c r ≡ true
  through_own [] r h = h
  through_own (late.gets o ∷ is) r h = h.0
  through_own (stopped o b ∷ is) r h = h.0
  through_own (goes_own v ∷ is) r h = h.0
  through_own (stores_own b ∷ is) r h = h.0
  through_own (calls_own e ∷ is) r h = h.0
  through_own (goes_back v b ∷ is) r h = h.0

  record LateItems (is : List Item) (us : List (Ans Answer)) (r : Run) (st : ℕ) (z : Run) : Type 0 where
    stand : At c (beside st (items share n is r) z)
    told : item_answers share n is r ≡ woven (common_of is) us
    free : FreeWay c (items share n is r).machine.under_way_lem

  -- what it was answered last does not matter
  at_muted : (x y : Run) (st : ℕ) (z : Run) → mute y ≡ mute x → OwnSome c share n x → Few y.answer
      → At c (beside st x z) → At c (beside st y z)
  at_muted x y st z e h f k =
      let m = own-now share n k h in
      let l = own-lawful k m in
      subst (λ r. At c (beside st (answering y.answer r) z)) (sym e)
      (touched-own k m (touched-refl l.0) y.answer f l.1)

  module _ (st : ℕ) (z : Run) where
    -- where the channel's data alone is touched
    touched_lits : (p : Access) (g : ℕ → St → tree.Out St Answer) (q : Access) (a b : Ans Answer) (τ : List ℕ)
        {os : List Light} {us : List (Ans Answer)}
        {s s' t t' : St} → Does c os us s t → Does c os us s' t' → Touched c quiet t t'
        → Roomed (run_of true (asks p s' g) q b τ)
        → OwnSome c share n (run_of true (asks p s g) q a τ) → FreeWay c (busy true (awaited p) g)
        → At c (beside st (lits share n os (run_of true (asks p s g) q a τ)) z)
        → At c (beside st (lits share n os (run_of true (asks p s' g) q b τ)) z)
    touched_lits p g q a b τ {os} {us} {s} {s'} {t} {t'} d d' m k h f w =
        let x = lits share n os (run_of true (asks p s g) q a τ) in
        let y = lits share n os (run_of true (asks p s' g) q b τ) in
        let e : mute x ≡ mute (run_of true (asks p t g) q a τ) = does_lits c share n p g q a τ d in
        let e' : mute y ≡ mute (run_of true (asks p t' g) q b τ) = does_lits c share n p g q b τ d' in
        let o = own-now share n w (lits_own c share n (gets_at p g q a τ d f) h) in
        let r = lits_roomed os (run_of true (asks p s' g) q b τ) k in
        subst (λ r. At c (beside st (answering y.answer r) z))
        (ap (λ (r : Run). restate t' (told 0) r) e ∙ sym e')
        (touched-own w o (subst (λ (r : Run). Touched c quiet (state_of r) t') (sym e) m) y.answer r.few
        (subst (λ (r : Run). Roomy r.machine) (e' ∙ sym (ap (λ (r : Run). restate t' (told 0) r) e)) r.machine))

    -- an item that changes nothing but the channel's data
    acted : (i : Item) (is : List Item) → ((us : List (Ans Answer)) (r : Run) → Gets c share n (lights_of is) us r
        → AtOwn c share n is r
        → Roomed r → At c (beside st (lits share n (lights_of is) r) z) → LateItems is us r st z)
        → {us : List (Ans Answer)} (p : Access) (g : ℕ → St → tree.Out St Answer) (q : Access) (a : Ans Answer)
        (τ : List ℕ) {s t : St}
        → Does c (lights_of is) us s t → FreeWay c (busy true (awaited p) g) → at_own c (run_of true (asks p s g) q a τ)
        ≡ true
        → Acts p g q a τ s (item share n i (run_of true (asks p s g) q a τ))
        → AtOwn c share n is (item share n i (run_of true (asks p s g) q a τ))
        → Roomed (run_of true (asks p s g) q a τ) → At c
        (beside st (lits share n (lights_of is) (run_of true (asks p s g) q a τ)) z)
        → LateItems is us (item share n i (run_of true (asks p s g) q a τ)) st z
    acted i is rec {us} p g q a τ {s = s} d f o m h k w =
        let y = does_touched c d m.touched (room k.machine) in
        let x : Roomed (run_of true (asks p m.after g) q m.answer τ) = m.roomed k in
        let v = rec us (run_of true (asks p m.after g) q m.answer τ) (gets_at p g q m.answer τ y.does f)
        (subst (AtOwn c share n is) m.is h) x
        (touched_lits p g q a m.answer τ d y.does y.touched x
        (own_some c share n (run_of true (asks p s g) q a τ) o) f w) in
        subst (λ r. LateItems is us r st z) (sym m.is) v

    late_items : (is : List Item) (us : List (Ans Answer)) (r : Run) → Gets c share n (lights_of is) us r
        → AtOwn c share n is r → Roomed r
        → At c (beside st (lits share n (lights_of is) r) z) → LateItems is us r st z
    late_items [] us r (gets_at p g q a τ (did_none l) f) h k w = record { stand = w; told = refl; free = f }
    late_items (late.gets o ∷ is) vs r (gets_at p g q a τ {s = s} (did_more {a = b} {us = us} {t = t} d y e) f) h k w =
        let r = run_of true (asks p s g) q a τ in
        let x = did_lit c share n p g q a τ d in
        let v = late_items is us (lit share n o r) (subst (Gets c share n (lights_of is) us) (sym x)
        (gets_at p g q (last_answer o s a) τ y f)) h.1
        (lit_roomed o r k) w in
        record {
          stand = v.stand;
          told = ap (answers_by o (lit share n o r).answer) v.told
              ∙ ap (λ (z : Run). answers_by o z.answer (woven (common_of is) us)) x
              ∙ crossing.same-answers o s a (woven (common_of is) us)
              ∙ ap (λ y. answers_by o y (woven (common_of is) us)) d.told
              ∙ woven-light o b us (common_of is) ∙ ap (woven (common o ∷ common_of is)) e;
          free = v.free;
        }
    late_items (goes_own v ∷ is) us r y h k w =
        let os = lights_of is in
        let u = own_some c share n (late.gone share n v r) (through_own is (late.gone share n v r) h.3) in
        let x = crosses c share n y v h.1 u (λ b. own_some c share n _ (h.2 b)) in
        let m = own-now share n w (lits_own c share n y (own_some c share n r h.0)) in
        let s = (step c share n (first (record { call = continue v; lent = (lits share n os r).machine.buf })) w
        (m, own_lent (own-lent-back c _))).stand in
        let o = subst (OwnSome c share n) x.muted (muted_own (lits_own c share n x.still u)) in
        let q = late_items is us (late.gone share n v r) x.still h.3 (gone_roomed v r k)
        (at_muted (late.gone share n v (lits share n os r)) (lits share n os (late.gone share n v r)) st z x.muted
        (record { state = o.state; is = o.is })
        (lits_roomed os (late.gone share n v r) (gone_roomed v r k)).few s) in
        record { stand = q.stand; told = q.told; free = q.free }
      where
        muted_own : {x : Run} → OwnSome c share n x → OwnSome c share n (mute x)
        muted_own h = record { state = h.state; is = h.is }
    late_items (stopped o b ∷ is) us r (gets_at p g q a τ {s = s} d f) h k w =
        let v = acted (stopped o b) is (λ us r y h k w. late_items is us r y h k w) p g q a τ d f h.0
        (stops_at p g q a τ s (does_before c d) o b h.1) h.2 k w in
        let e = stopped_answer o b (run_of true (asks p s g) q a τ) h.1 in
        record { stand = v.stand; told = λ i. e i ∷ v.told i; free = v.free }
    late_items (stores_own b ∷ is) us r (gets_at p g q a τ {s = s} d f) h k w =
        let v = acted (stores_own b) is (λ us r y h k w. late_items is us r y h k w) p g q a τ d f h.0
        (stores_at p g q a τ s (does_before c d) b h.1) h.2 k w in
        record { stand = v.stand; told = v.told; free = v.free }
    late_items (calls_own e ∷ is) us r (gets_at p g q a τ {s = s} d f) h k w =
        let v = acted (calls_own e) is (λ us r y h k w. late_items is us r y h k w) p g q a τ d f h.0
        (acts p g q a τ s (does_before c d) e.call e.lent h.1) h.2 k w in
        record { stand = v.stand; told = v.told; free = v.free }
    late_items (goes_back m b ∷ is) us r (gets_at p g q a τ {s = s} d f) h k w =
        let v = acted (goes_back m b) is (λ us r y h k w. late_items is us r y h k w) p g q a τ d f h.0
        (backs p g q a τ s (does_before c d) m b h.1) h.2 k w in
        record { stand = v.stand; told = v.told; free = v.free }

  -- ---- both, up to the continue

  module _ (st : ℕ) (p : Access) (g g' : ℕ → St → tree.Out St Answer) where
    -- the one gets what the others get; the other, r, gets its list
    record Twins (es : List Item) (s : St) (τ : List ℕ) (r : Run) : Type 0 where
      us : List (Ans Answer)
      us' : List (Ans Answer)
      after : St
      after' : St
      does : Does c (lights_of es) us s after
      is : mute (items share n es r) ≡ mute (run_of true (asks p after' g') p (told 0) τ)
      answers : item_answers share n es r ≡ woven (common_of es) us'
      like : LowEquiv c quiet after after'
      same_told : AllSame c.number us us'
      room : Roomy (machine_of (busy true (awaited p) g) after)
      room' : Roomy (machine_of (busy true (awaited p) g') after')

    all_by : (o : Light) {a b : Ans Answer} {us vs : List (Ans Answer)} → SameAns c.number a b
        → AllSame c.number us vs
        → AllSame c.number (answers_by o a us) (answers_by o b vs)
    all_by (opens e) h k = more h k
    all_by (closes e) h k = more h k
    all_by (queues e bs) h k = more h k
    all_by (asks_of q) h k = more h k
    all_by (stored w) h k = k

    -- of what it is answered, a store apart
    few_of : (o : Light) (s : St) (a : Ans Answer) → Few (last_answer o s a) → Few (answered o (seen o s))
    few_of (opens e) s a h = h
    few_of (closes e) s a h = h
    few_of (queues e bs) s a h = h
    few_of (asks_of q) s a h = h
    few_of (stored w) s a h = tt

    lit_told : (k : ℕ → St → tree.Out St Answer) (o : Light) (s : St) → Lawful c.iso quiet s
        → Roomy (machine_of (busy true (awaited p) k) s)
        → Few (answered o (seen o s)) × Roomy (machine_of (busy true (awaited p) k) (done_at o s))
    lit_told k o s l r =
        let x = lit_roomed o (run_of true (asks p s k) p (told 0) []) (record { machine = r; few = tt }) in
        let y = subst Roomed (lit_is c share n o p s k p (told 0) [] l) x in
        (few_of o s (told 0) y.few, y.machine)

    twinned : (i : Item) (is : List Item) {s : St} {τ : List ℕ} {r : Run} (z : Twins is s τ (item share n i r))
        → lights_of (i ∷ is) ≡ lights_of is
        → item_answers share n (i ∷ is) r ≡ woven (common_of (i ∷ is)) z.us' → Twins (i ∷ is) s τ r
    twinned i is {s} z e h = record {
      us = z.us;
      us' = z.us';
      after = z.after;
      after' = z.after';
      does = subst (λ os. Does c os z.us s z.after) (sym e) z.does;
      is = z.is;
      answers = h;
      like = z.like;
      same_told = z.same_told;
      room = z.room;
      room' = z.room';
    }

    -- an item that changes nothing but the channel's data
    twin_acted : (i : Item) (is : List Item) → ((q : Access) (a : Ans Answer) (τ : List ℕ) (s t : St)
        → Before c share n is (run_of true (asks p t g') q a τ)
        → LowEquiv c quiet s t → Roomy (machine_of (busy true (awaited p) g) s) → Roomed (run_of true (asks p t g') q a τ)
        → Twins is s τ (run_of true (asks p t g') q a τ))
        → (q : Access) (a : Ans Answer) (τ : List ℕ) (s t : St)
        → Acts p g' q a τ t (item share n i (run_of true (asks p t g') q a τ))
        → Before c share n is (item share n i (run_of true (asks p t g') q a τ)) → LowEquiv c quiet s t
        → Roomy (machine_of (busy true (awaited p) g) s)
        → Roomed (run_of true (asks p t g') q a τ) → Twins is s τ (item share n i (run_of true (asks p t g') q a τ))
    twin_acted i is rec q a τ s t m h l r r' =
        subst (Twins is s τ) (sym m.is) (rec q m.answer τ s m.after (subst (Before c share n is) m.is h)
        (like-sym (touch m.touched (like-sym l))) r (m.roomed r'))

    twins : (es : List Item) (q : Access) (a : Ans Answer) (τ : List ℕ) (s t : St)
        → Before c share n es (run_of true (asks p t g') q a τ)
        → LowEquiv c quiet s t → Roomy (machine_of (busy true (awaited p) g) s) → Roomed (run_of true (asks p t g') q a τ)
        → Twins es s τ (run_of true (asks p t g') q a τ)
    twins [] q a τ s t m l r r' = record {
      us = [];
      us' = [];
      after = s;
      after' = t;
      does = did_none l.left;
      is = refl;
      answers = refl;
      like = l;
      same_told = none;
      room = r;
      room' = r'.machine;
    }
    twins (late.gets o ∷ is) q a τ s t m l r r' =
        let i = still_other c l.right (but_reach c (like-sym l).but) o m.0 in
        let y = light-both c st o i m.0 l in
        let x = lit_told g o s l.left r in
        let e = lit_is c share n o p t g' q a τ l.right in
        let x' : Roomed (run_of true (asks p (done_at o t) g') q (last_answer o t a) τ) =
        subst Roomed e (lit_roomed o (run_of true (asks p t g') q a τ) r') in
        let z = twins is q (last_answer o t a) τ (done_at o s) (done_at o t) (subst (Before c share n is) e m.1)
        y.like x.1 x' in
        record {
          us = answers_by o (answered o (seen o s)) z.us;
          us' = answers_by o (answered o (seen o t)) z.us';
          after = z.after;
          after' = z.after';
          does = did_more (record { before = l.left; after = y.like.left; other = i; is = refl; told = refl })
              z.does refl;
          is = ap (λ r. mute (items share n is r)) e ∙ z.is;
          answers = ap (λ (r : Run). answers_by o r.answer (item_answers share n is r)) e
              ∙ ap (answers_by o (last_answer o t a)) z.answers
              ∙ crossing.same-answers o t a (woven (common_of is) z.us')
              ∙ woven-light o (answered o (seen o t)) z.us' (common_of is);
          like = z.like;
          same_told = all_by o (y.same_told x.0 (few_of o t a x'.few)) z.same_told;
          room = z.room;
          room' = z.room';
        }
    twins (goes_own v ∷ is) q a τ s t m l r r' = absurd m
    twins (stopped o b ∷ is) q a τ s t m l r r' =
        let z = twin_acted (stopped o b) is (λ q a τ s t m l r r'. twins is q a τ s t m l r r') q a τ s t
        (stops_at p g' q a τ t l.right o b m.0) m.1 l r r' in
        let e = stopped_answer o b (run_of true (asks p t g') q a τ) m.0 in
        twinned (stopped o b) is z refl (λ i. e i ∷ z.answers i)
    twins (stores_own b ∷ is) q a τ s t m l r r' =
        let z = twin_acted (stores_own b) is (λ q a τ s t m l r r'. twins is q a τ s t m l r r') q a τ s t
        (stores_at p g' q a τ t l.right b m.0) m.1 l r r' in
        twinned (stores_own b) is z refl z.answers
    twins (calls_own d ∷ is) q a τ s t m l r r' =
        let z = twin_acted (calls_own d) is (λ q a τ s t m l r r'. twins is q a τ s t m l r r') q a τ s t
        (acts p g' q a τ t l.right d.call d.lent m.0) m.1 l r r' in
        twinned (calls_own d) is z refl z.answers
    twins (goes_back v b ∷ is) q a τ s t m l r r' =
        let z = twin_acted (goes_back v b) is (λ q a τ s t m l r r'. twins is q a τ s t m l r r') q a τ s t
        (backs p g' q a τ t l.right v b m.0) m.1 l r r' in
        twinned (goes_back v b) is z refl z.answers

  -- ---- a late turn

  -- what the others get, in both before the continue: `cs` is what both get
  pub record Reach (v v' : ℕ) (es : List Item) (cs : List Common) (w : Two) : Type 0 where
    pub us : List (Ans Answer)
    pub us' : List (Ans Answer)
    pub gets : Gets c share n (lights_in cs) us w.first
    pub answers : item_answers share n es w.second ≡ woven cs us'
    pub same_told : AllSame c.number us us'
    pub stand : At c (record {
      first = late.gone share n v (lits share n (lights_in cs) w.first);
      second = late.gone share n v' (items share n es w.second);
      status = w.status;
    })
    pub roomed : Roomed w.first
    pub free' : FreeWay c (late.gone share n v' (items share n es w.second)).machine.under_way_lem

  pub reach : {w : Two} → At c w → FreeWay c w.first.machine.under_way_lem → FreeWay c w.second.machine.under_way_lem
      → (v v' : ℕ) (es : List Item)
      → Continues c w.status v v' w.first w.second → Before c share n es w.second
      → Reach v v' es (common_of es) w
  reach (at st i (end x l) q q' h k k' e) fr fr' v v' es m o = absurd m.serving
  reach (at st true (both {q = p} {s = s} {t = t} {k = g} {k' = g'} quiet z w w' l f) q q' {a = a} {a' = a'} {t = τ}
      {t' = τ'} h k k' e) fr fr' v v' es m o =
      let y = twins st p g g' es q' a' τ' s t o l k.room (record { machine = k'.room; few = k'.few }) in
      let d : late.gone share n v (lits share n (lights_of es) (run_of true (asks p s g) q a τ))
      ≡ late.gone share n v (run_of true (asks p y.after g) q a τ) =
      ap (λ z. late.gone share n v z) (does_lits c share n p g q a τ y.does) in
      let d' : late.gone share n v' (items share n es (run_of true (asks p t g') q' a' τ'))
      ≡ late.gone share n v' (run_of true (asks p y.after' g') q' a' τ') = ap (λ z. late.gone share n v' z) y.is in
      let b = (goes_by c share n st true (both quiet z w w' y.like f) q q' {a = a} {a' = a'}
      (record { spares = λ j. spares-put y.after (k.spares j); few = k.few; room = y.room })
      (record { spares = λ j. spares-put y.after' (k'.spares j); few = k'.few; room = y.room' }) e v v'
      y.after.1 y.after'.1 (
        own-no c.number g y.after w,
        own-no c.number g' y.after' w',
        go_on m.within m.within'
            m.brings (lent_back c y.after y.after'),
      )).stand in
      record {
        us = y.us;
        us' = y.us';
        gets = gets_at p g q a τ y.does fr;
        answers = y.answers;
        same_told = y.same_told;
        stand = subst (λ x. At c (beside st x (late.gone share n v'
            (items share n es (run_of true (asks p t g') q' a' τ'))))) (sym d)
            (subst (λ x. At c (beside st (late.gone share n v (run_of true (asks p y.after g) q a τ)) x)) (sym d') b);
        roomed = record { machine = k.room; few = k.few };
        free' = subst (λ (z : Run). FreeWay c z.machine.under_way_lem) (sym d')
            (drive_free c (continue v') (machine_of (busy true (awaited p) g') y.after') y.after'.1 fr'
            (λ _. y.like.right));
      }
  reach (at st true (both (mid y j) z w w' l f) q q' h k k' e) fr fr' v v' es m o = absurd z.0
  reach (at st false (both φ z w w' l f) q q' h k k' e) fr fr' v v' es m o = absurd m.serving
  reach (at st i (left {s = s} {k = g} w p z f) q q' h k k' e) fr fr' v v' es m o
      = absurd (true≢false (sym (own-yes c.number g s w) ∙ m.shared))
  reach (at st i (right {t = t} {k = g} w p z f) q q' h k k' e) fr fr' v v' es m o
      = absurd (true≢false (sym (own-yes c.number g t w) ∙ m.shared'))
  reach (at st i (owns {s = s} {k = g} w w' l f f') q q' h k k' e) fr fr' v v' es m o
      = absurd (true≢false (sym (own-yes c.number g s w) ∙ m.shared))

  pub record LateDone (v v' : ℕ) (is es : List Item) (w : Two) : Type 0 where
    pub stand : At c (later share n (first-late v v' is es) w)
    pub heard : Heard c share n (first-late v v' is es) w
    pub free : FreeWay c (items share n is (late.gone share n v w.first)).machine.under_way_lem
    pub free' : FreeWay c (late.gone share n v' (items share n es w.second)).machine.under_way_lem

  pub first_by : {w : Two} → At c w → FreeWay c w.first.machine.under_way_lem
      → FreeWay c w.second.machine.under_way_lem → (v v' : ℕ) (is es : List Item)
      → Continues c w.status v v' w.first w.second → Late c share n v is es w.first w.second
      → LateDone v v' is es w
  first_by {w} a fr fr' v v' is es m o =
      let os = lights_of is in
      let r = w.first in
      let r' = late.gone share n v' (items share n es w.second) in
      let y : Reach v v' es (common_of is) w = subst (λ cs. Reach v v' es cs w) o.same
      (reach a fr fr' v v' es m o.early) in
      let u = own_some c share n (late.gone share n v r) (through_own is (late.gone share n v r) o.own) in
      let x = crosses c share n y.gets v m.within u
      (λ b. own_some c share n (late.gone share n v (lits share n os r)) (o.unseen b)) in
      let h = subst (OwnSome c share n) x.muted (muted_own (lits_own c share n x.still u)) in
      let k = gone_roomed v r y.roomed in
      let z = late_items w.status r' is y.us (late.gone share n v r) x.still o.own k
      (at_muted (late.gone share n v (lits share n os r)) (lits share n os (late.gone share n v r)) w.status r'
      x.muted
      (record { state = h.state; is = h.is }) (lits_roomed os (late.gone share n v r) k).few y.stand) in
      record {
        stand = z.stand;
        heard = subst (λ us. AllSame c.number us (item_answers share n es w.second)) (sym z.told)
            (subst (λ us. AllSame c.number (woven (common_of is) y.us) us) (sym y.answers)
            (woven-same (common_of is) y.us y.us' y.same_told));
        free = z.free;
        free' = y.free';
      }
    where
      muted_own : {x : Run} → OwnSome c share n x → OwnSome c share n (mute x)
      muted_own h = record { state = h.state; is = h.is }

  -- either run may be named first
  turned_round : {w : Two} → At c w → {v v' : ℕ} → Continues c w.status v v' w.first w.second
      → Continues c w.status v' v w.second w.first
  turned_round (at st i (end x l) q q' h k k' e) m = absurd m.serving
  turned_round (at st true (both {q = p} φ z w w' l f) q q' h k k' e) {v} {v'} m =
      record {
        serving = tt;
        shared = m.shared';
        shared' = m.shared;
        within = m.within';
        within' = m.within;
        brings = brings-sym
            c.number st p v v' m.brings;
      }
  turned_round (at st false (both φ z w w' l f) q q' h k k' e) m = absurd m.serving
  turned_round (at st i (left {s = s} {k = g} w p z f) q q' h k k' e) m
      = absurd (true≢false (sym (own-yes c.number g s w) ∙ m.shared))
  turned_round (at st i (right {t = t} {k = g} w p z f) q q' h k k' e) m
      = absurd (true≢false (sym (own-yes c.number g t w) ∙ m.shared'))
  turned_round (at st i (owns {s = s} {k = g} w w' l f f') q q' h k k' e) m
      = absurd (true≢false (sym (own-yes c.number g s w) ∙ m.shared))

  all_round : {x : ℕ} {us vs : List (Ans Answer)} → AllSame x us vs → AllSame x vs us
  all_round none = none
  all_round (more h k) = more (ans-sym h) (all_round k)

  -- ---- what is under way is free after every turn

  pub record FreeBoth (w : Two) : Type 0 where
    pub one : FreeWay c w.first.machine.under_way_lem
    pub other : FreeWay c w.second.machine.under_way_lem

  called_free : (d : Call Config Op) (b : Buf) (r : Run) → FreeWay c r.machine.under_way_lem
      → LentLawful c d r.machine b
      → FreeWay c (called share n d b r).machine.under_way_lem
  called_free d b r f l = by (turned_down n (sort_of d) (drive d r.machine b).0 r.machine.st r.time && share)
      (time_after n (sort_of d) (drive d r.machine b).0 r.machine.st r.time)
    where
      by : (u : Bool) (t : List ℕ) → FreeWay c (cond {A = StepResult × List ℕ} u
          ((ended (Refused 19), lent_to calls driver_of r.machine b), r.time)
          (drive d r.machine b, t)).0.1.under_way_lem
      by true t = f
      by false t = drive_free c d r.machine b f l

  alone_free : (d : Call Config Op) (b : Buf) (r : Run) → FreeWay c r.machine.under_way_lem
      → LentLawful c d r.machine b
      → FreeWay c (alone share n d b r).machine.under_way_lem
  alone_free (continue v) b r f l = called_free (continue v) b r f l
  alone_free (begin o) b r f l = called_free (begin o) b r f l
  alone_free (start k) b r f l = called_free (start k) b r f l
  alone_free (question q) b r f l = called_free (question q) b r f l

  -- what is lent is lawful
  abbrev Fine : Run → Type 0
  Fine r = Needs c r.machine.under_way_lem (Lawful c.iso quiet (state_of r))

  first_fine : {w : Two} → At c w → Fine w.first
  first_fine (at st i {o = ends a s} l q q' h k k' e) = lawful-rests l
  first_fine (at st true {o = asks p s g} l q q' h k k' e) = lawful-busy l
  first_fine (at st false {o = asks p s g} l q q' h k k' e) = tt

  needs_lent : (under_way_lem : Pending Answer Driver) {s : St} {b : Buf} → Needs c under_way_lem (Lawful c.iso quiet s)
      → Stored s.0 s.1 b
      → Needs c under_way_lem (Lawful c.iso quiet (s.0, b))
  needs_lent idle l h = lawful-stored c l h
  needs_lent (busy true a k) l h = lawful-stored c l h
  needs_lent (busy false a k) l h = tt

  fine_lent : (r : Run) {b : Buf} → Fine r → Stored r.machine.st r.machine.buf b
      → Needs c r.machine.under_way_lem (Lawful c.iso quiet (r.machine.st, b))
  fine_lent r f h = needs_lent r.machine.under_way_lem f h

  no_irq : {X : Type 0} {o : Op} → irq o ≡ false → o ≡ interrupt → X
  no_irq h i = absurd (true≢false (sym (ap irq i) ∙ h))

  begin_lent : (o : Op) (r : Run) (b : Buf) → Fine r → (unfit (begin o) r b ≡ true)
      ⊎ Stored r.machine.st r.machine.buf b → LentLawful c (begin o) r.machine b
  begin_lent o r b f (inl x) i e = absurd (true≢false (sym (subst (λ o. unfit (begin o) r b ≡ true) i x)))
  begin_lent o r b f (inr h) i e = subst (λ w. Needs c w (Lawful c.iso quiet (r.machine.st, b))) e
      (fine_lent r f h)

  go_lent : (v : ℕ) (r : Run) (b : Buf) → Fine r → (unfit (continue v) r b ≡ true)
      ⊎ Stored r.machine.st r.machine.buf b → LentLawful c (continue v) r.machine b
  go_lent v r b f (inl x) m = absurd (true≢false (sym x ∙ m))
  go_lent v r b f (inr h) m = fine_lent r f h

  call_left : {o : Op} {r r' : Run} {b b' : Buf} → BothCall c o r r' b b' → (unfit (begin o) r b ≡ true)
      ⊎ Stored r.machine.st r.machine.buf b
  call_left (call_row1 x y) = inl x
  call_left (call_lent h) = inr h.left

  call_right : {o : Op} {r r' : Run} {b b' : Buf} → BothCall c o r r' b b' → (unfit (begin o) r' b' ≡ true)
      ⊎ Stored r'.machine.st r'.machine.buf b'
  call_right (call_row1 x y) = inl y
  call_right (call_lent h) = inr h.right

  go_left : {st v v' : ℕ} {r r' : Run} {b b' : Buf} → BothGo c st v v' r r' b b' → (unfit (continue v) r b ≡ true)
      ⊎ Stored r.machine.st r.machine.buf b
  go_left (go_row1 x y) = inl x
  go_left (go_row16 x y h) = inr h.left
  go_left (go_on x y z h) = inr h.left

  go_right : {st v v' : ℕ} {r r' : Run} {b b' : Buf} → BothGo c st v v' r r' b b' → (unfit (continue v') r' b' ≡ true)
      ⊎ Stored r'.machine.st r'.machine.buf b'
  go_right (go_row1 x y) = inl y
  go_right (go_row16 x y h) = inr h.right
  go_right (go_on x y z h) = inr h.right

  back_left : {v : ℕ} {r : Run} {b : Buf} → Refuses c v r b → (unfit (continue v) r b ≡ true)
      ⊎ Stored r.machine.st r.machine.buf b
  back_left (back_row1 x) = inl x
  back_left (back_lent x h) = inr h.stored

  of_channel : {o : Op} → OfChannel c.number o → irq o ≡ false
  of_channel (polls e n p) = refl
  of_channel (passes o p) = refl

  alone_lent : (d : Call Config Op) (r : Run) (b : Buf) → Fine r → Alone c d b r → LentLawful c d r.machine b
  alone_lent (continue v) r b f m = go_lent v r b f (by m.1)
    where
      by : OwnCall c (continue v) r b → (unfit (continue v) r b ≡ true) ⊎ Stored r.machine.st r.machine.buf b
      by (own_row1 x) = inl x
      by (own_lent h) = inr h.stored
  alone_lent (begin o) r b f m = λ i e. no_irq (of_channel m.0) i
  alone_lent (start k) r b f m = tt
  alone_lent (question q) r b f m = tt

  pub turn_free : (t : Turn) (w : Two) → At c w → May c t w → FreeBoth w → FreeBoth (turn share n t w)
  turn_free (begins st o b b') w a m f = record {
    one = called_free (begin o) b w.first f.one (begin_lent o w.first b (first_fine a) (call_left m.3));
    other = called_free (begin o) b' w.second f.other
        (begin_lent o w.second b' (first_fine (at-swap a)) (call_right m.3));
  }
  turn_free (goes v v' b b') w a m f = record {
    one = called_free (continue v) b w.first f.one (go_lent v w.first b (first_fine a) (go_left m.2));
    other = called_free (continue v') b' w.second f.other
        (go_lent v' w.second b' (first_fine (at-swap a)) (go_right m.2));
  }
  turn_free (asked q b b') w a m f = record { one = f.one; other = f.other }
  turn_free (stores b b') w a m f = record { one = f.one; other = f.other }
  turn_free (others_time g) w a m f = record { one = f.one; other = f.other }
  turn_free (first e) w a m f = record {
    one = alone_free e.call e.lent w.first f.one
        (alone_lent e.call w.first e.lent (first_fine a) m);
    other = f.other;
  }
  turn_free (second e) w a m f = record {
    one = f.one;
    other = alone_free e.call e.lent w.second f.other
        (alone_lent e.call w.second e.lent (first_fine (at-swap a)) m);
  }
  turn_free (first-refused v b) w a m f = record {
    one = called_free (continue v) b w.first f.one (go_lent v w.first b (first_fine a) (back_left m));
    other = f.other;
  }
  turn_free (second-refused v b) w a m f = record {
    one = f.one;
    other = called_free (continue v) b w.second f.other
        (go_lent v w.second b (first_fine (at-swap a)) (back_left m));
  }

  pub later_free : (t : Later) (w : Two) → At c w → MayLate c share n t w → FreeBoth w → FreeBoth (later share n t w)
  later_free (timely t) w a m f = turn_free t w a m f
  later_free (first-late v v' is es) w a m f =
      let y = first_by a f.one f.other v v' is es m.0 m.1 in record { one = y.free; other = y.free' }
  later_free (second-late v v' is es) w a m f =
      let y = first_by (at-swap a) f.other f.one v' v is es (turned_round a m.0) m.1 in record
      { one = y.free'; other = y.free }

  pub turns_free : (ts : List Turn) (w : Two) → At c w → Allowed c share n ts w → FreeBoth w
      → FreeBoth (after share n ts w)
  turns_free [] w a m f = f
  turns_free (t ∷ ts) w a m f = turns_free ts (turn share n t w) (step c share n t a m.0).stand m.1
      (turn_free t w a m.0 f)

  -- where the two part nothing is under way
  pub opened_free : (s : Session) (w : Two) → w.first.time ≡ w.second.time → Opens share n s w
      → FreeBoth (opened share n s w)
  opened_free s w e o = record {
    one = subst (FreeWay c) (sym o.rests) tt;
    other = subst (FreeWay c) (sym (parted share n s w e o).rests) tt;
  }

  -- ---- lists of turns

  pub record Stepped (t : Later) (w : Two) : Type 0 where
    pub stand : At c (later share n t w)
    pub heard : Heard c share n t w
    pub after_it : AfterLate c share n t (later share n t w)

  stood : {w : Two} → At c w → After c (others_time (λ t. t)) w
  stood y = record { answers = tt; stands = at-stands y; lined = at-lined y; alike = at-alike y; time = at-time y }

  pub late_step : (t : Later) {w : Two} → At c w → FreeBoth w → MayLate c share n t w → Stepped t w
  late_step (timely t) a f m = let y = step c share n t a m in record {
    stand = y.stand;
    heard = tt;
    after_it
        = y.after_it;
  }
  late_step (first-late v v' is es) a f m =
      let y = first_by a f.one f.other v v' is es m.0 m.1 in
      record { stand = y.stand; heard = y.heard; after_it = stood y.stand }
  late_step (second-late v v' is es) {w} a f m =
      let y = first_by (at-swap a) f.other f.one v' v is es (turned_round a m.0) m.1 in
      let z = at-swap y.stand in
      record { stand = z; heard = all_round y.heard; after_it = stood z }

  every_late : (ts : List Later) {w : Two} → At c w → FreeBoth w → AllowedLate c share n ts w → EveryLate c share n ts w
      × At c (after_all share n ts w)
  every_late [] a f m = (tt, a)
  every_late (t ∷ ts) {w} a f m =
      let y = late_step t a f m.0 in
      let z = every_late ts y.stand (later_free t w a m.0 f) m.1 in
      ((y.heard, y.after_it, z.0), z.1)

-- two runs with one record of the bus time, whatever was before
pub undisturbed-late : (share : Bool) (n : ℕ) (ss : List LateSession) (w : Two) → w.first.time ≡ w.second.time
    → AllOpenLate share n ss w
    → UndisturbedLate share n ss w
undisturbed-late share n [] w e o = tt
undisturbed-late share n (s ∷ ss) w e o =
    let c = s.opening.channel in
    let a = opened-at share n s.opening w e o.0 in
    let b = stands_after c share n s.opening.turns a o.0.allowed in
    let f = turns_free c share n s.opening.turns _ a o.0.allowed
    (opened_free c share n s.opening w e o.0) in
    let z = every_late c share n s.turns b f o.1 in (
      always c share n s.opening.turns a o.0.allowed,
      z.0,
      undisturbed-late share n ss _ (at-time z.1)
          o.2,
    )
