-- What RunsLaws.antt speaks of. It proves: each turn leaves two runs standing so that they line up
use Rattle.std.specs.Prelude.{Bool, true, false, cond, ◌&&◌, List, ◌≡◌, refl, ℕ}
use Rattle.std.proofs.Common.{true≢false, ap, subst, sym, ◌∙◌}
use Rattle.regs.specs.declared.Access.{Access}
use Rattle.state.specs.Driver.{Driver}
use Rattle.script.specs.Tree as tree
use Rattle.script.specs.Tree.{ends, asks}
use Rattle.script.specs.Every.{at_end, at_ask}
use Rattle.script.specs.Script.{run}
use Rattle.script.specs.Answers.{Answer, Refused}
use Rattle.script.specs.Simulates.{Phase, quiet, mid}
use Rattle.script.specs.Calls.{Config, Op, interrupt, slotted, other, aside, Aside, calls, irq, code, slots, aside_code}
use Rattle.script.specs.Calls.{aside_slots}
use Rattle.script.specs.Machine.{Buf, Question, pending, Call, begin, continue, question, Ans, ended, handed, told}
use Rattle.script.specs.Machine.{awaited}
use Rattle.script.specs.Machine.{Pending, idle, busy, Machine, over, lent_to, during_interrupt}
use Rattle.script_ops.specs.Rings.{St}
use Rattle.script_ops.specs.Concrete.{concrete}
use Rattle.machine.specs.Suspended.{driver_of, drive}
use Rattle.answer.specs.Goes.{StepResult}
use Rattle.calls.specs.Sharing.{Sort, enabling, starting, going, op_sort, slotted_sort, sort_of, time_after, turned_down}
use Rattle.calls.specs.Sharing as sharing
use Rattle.proof_wake_ups.specs.Rooms.{Roomy, Rooms}
use Rattle.proof_wake_ups.proofs.RoomsLaws.{rooms}
use Rattle.proof_isolation.specs.EqualExcept.{Lawful, Channel, LowEquiv}
use Rattle.proof_isolation.specs.Apart.{ApartBy, Apart, end, both, left, right, owns}
use Rattle.proof_isolation.specs.Answers.{SameAnswer}
use Rattle.proof_isolation.specs.Ending.{Finished, fin}
use Rattle.proof_isolation.specs.Asides.{Others}
use Rattle.proof_isolation.proofs.AsidesLaws.{p-aside, finishes}
use Rattle.proof_isolation.specs.Operations.{Common}
use Rattle.proof_isolation.proofs.OperationsLaws.{p-call}
use Rattle.proof_isolation.specs.Stores.{StoredAlike}
use Rattle.proof_isolation.specs.StoresLaws.{lent-like}
use Rattle.proof_isolation.specs.TimeLaws.{same-record, same-turned-down}
use Rattle.proof_isolation.proofs.OthersLaws.{same-answers}
use Rattle.calls.specs.Spares.{Sparing}
use Rattle.calls.specs.SparesLaws.{interrupt-spares, spares-on}
use Rattle.proof_isolation.specs.Schedule.{Run, Two, begins, goes, asked, stores, access_of, run_by, status_of}
use Rattle.proof_isolation.specs.Schedule.{shared, called, turn, state_of, Timely, at_own, unfit, wide, BringsAt}
use Rattle.proof_isolation.specs.Schedule.{BothCall, call_row1, call_lent, BothGo, go_row1, go_row16, go_on, May}
use Rattle.proof_isolation.specs.Schedule.{SameAns, same, alike}
use Rattle.proof_isolation.proofs.Standing.{machine_of, stops, run_of, own-yes, same-ans, Told, Orderly, At, at}
use Rattle.proof_isolation.proofs.Standing.{Both}
use Rattle.proof_isolation.proofs.StandingLaws.{fits, past-no, times-on, lands}

-- ---- what the machine of calls does

no-row1 : (b : Bool) {X : Type 0} (x y : X) → cond (cond b false false) x y ≡ y
no-row1 true x y = refl
no-row1 false x y = refl

module _ (c : Channel) {φ : Phase} (s : St) (b : Buf) (l : Lawful c.iso φ (s.0, b)) where
  pub go-idle : (v : ℕ) → drive (continue v) (machine_of idle s) b ≡ (ended (Refused 15), machine_of idle (s.0, b))
  go-idle v = rw (fits c l) refl

  pub go_busy : (i : Bool) (q : Access) (k : ℕ → St → tree.Out St Answer) (v : ℕ)
      → over calls (awaited q) v ≡ false → drive (continue v) (machine_of (busy i (awaited q) k) s) b
      ≡ stops i (k v (s.0, b))
  go_busy i q k v w = rw (fits c l, w) refl

  -- row 16
  pub go-wide : (i : Bool) (q : Access) (k : ℕ → St → tree.Out St Answer) (v : ℕ) → over calls (awaited q) v ≡ true
      → drive (continue v) (machine_of (busy i (awaited q) k) s) b
      ≡ (ended (Refused 16), machine_of (busy i (awaited q) k) (s.0, b))
  go-wide i q k v w = rw (fits c l, w) refl

  pub begin_idle : (o : Op) → drive (begin o) (machine_of idle s) b ≡ stops (irq o) (run concrete (code o) (s.0, b))
  begin_idle o = rw (fits c l) (no-row1 (slots o) _ _)

  -- open, close and queue during an interrupt, and during another operation
  pub aside-busy : (o : Aside) (i : Bool) → i ≡ true → (q : Access) (k : ℕ → St → tree.Out St Answer)
      → drive (begin (aside o)) (machine_of (busy i (awaited q) k) s) b
      ≡ during_interrupt calls driver_of (machine_of (busy i (awaited q) k) (s.0, b))
      (run concrete (aside_code o) (s.0, b))
  aside-busy o i e q k = rw (fits c l, e) (no-row1 (aside_slots o) _ _)

  pub aside-late : (o : Aside) (q : Access) (k : ℕ → St → tree.Out St Answer) → drive (begin (aside o))
      (machine_of (busy false (awaited q) k) s) b ≡ (ended (Refused 3), machine_of (busy false (awaited q) k) (s.0, b))
  aside-late o q k = rw (fits c l) (no-row1 (aside_slots o) _ _)

-- row 1: nothing changes
pub go-unfit : (r : Run) (v : ℕ) (b : Buf) → unfit (continue v) r b ≡ true → drive (continue v) r.machine b
    ≡ (ended (Refused 1), r.machine)
go-unfit r v b h = rw h refl

pub begin-unfit : (r : Run) (o : Op) (b : Buf) → unfit (begin o) r b ≡ true → drive (begin o) r.machine b
    ≡ (ended (Refused 1), r.machine)
begin-unfit r o b h = rw h refl

-- what is shown of the calls' outcomes is shown of the calls
through : (G : StepResult → StepResult → Type 0) {y y' z z' : StepResult} → y ≡ z → y' ≡ z' → Rooms y → Rooms y'
    → (Rooms z → Rooms z' → G z z') → G y y'
through G {y' = y'} {z = z} e e' r r' f = subst (λ p. G p y') (sym e)
    (subst (λ p. G z p) (sym e') (f (subst Rooms e r) (subst Rooms e' r')))

-- ---- calls that end at once

-- in both
record Ended (c : Channel) (o u : tree.Out St Answer) : Type 0 where
  value : Answer
  value' : Answer
  state : St
  state' : St
  is : o ≡ ends value state
  is' : u ≡ ends value' state'
  same : SameAnswer c.number value value'
  like : LowEquiv c quiet state state'

both_end : {c : Channel} {st : ℕ} {i : Bool} {o u : tree.Out St Answer} {K K' : St → Type 0}
    → Finished K o → Finished K' u → Apart c st i (SameAnswer c.number) o u → Ended c o u
both_end (fin a k) (fin b k') (end q l) = record {
  value = a;
  value' = b;
  state = _;
  state' = _;
  is = refl;
  is'
      = refl;
  same = q;
  like = l;
}

ended-aside : (c : Channel) (st : ℕ) (o : Aside) → Others c.number o
    → {s t : St} → LowEquiv c quiet s t → Ended c (run concrete (aside_code o) s) (run concrete (aside_code o) t)
ended-aside c st o n {s} {t} l = both_end (finishes o (λ _. Unit {0}) (λ _ _. tt) s tt)
    (finishes o (λ _. Unit {0}) (λ _ _. tt) t tt) ((p-aside c st o n).on s t l)

told_same : {x m n : ℕ} → m ≡ n → SameAns x (told m) (told n)
told_same {x} {m} e = subst (λ k. SameAns x (told m) (told k)) e (same (told m))

-- ---- what is kept in each run

pub spares-put : {q : Access} {s : St} (t : St) {k : ℕ → St → tree.Out St Answer} → Sparing (asks q s k)
    → Sparing (asks q t k)
spares-put t (at_ask ok k) = at_ask ok (λ v t b i. k v t b i)

irq-spares : (o : Op) → irq o ≡ true → (s : St) → Sparing (run concrete (code o) s)
irq-spares interrupt e s = interrupt-spares s
irq-spares (slotted o) e s = absurd (true≢false (sym e))
irq-spares (other o) e s = absurd (true≢false (sym e))
irq-spares (aside o) e s = absurd (true≢false (sym e))

-- the same machine, lent another buffer
pub lent-room : {m : Machine Answer Driver} → Roomy m → (b : Buf) → Roomy (lent_to calls driver_of m b)
lent-room r b = (rooms (question (pending 0)) r b).machine

-- ---- bus time as a call begins

apart-time : (n : ℕ) (a : Ans Answer) (d : Driver) (r : List ℕ) → time_after n sharing.apart a d r ≡ r
apart-time n (ended a) d r = refl
apart-time n (handed q) d r = refl
apart-time n (told k) d r = refl

ended-down : (n : ℕ) (x : Sort) (a : Answer) (d : Driver) (r : List ℕ) → turned_down n x (ended a) d r ≡ false
ended-down n (enabling dir e) a d r = refl
ended-down n starting a d r = refl
ended-down n going a d r = refl
ended-down n sharing.apart a d r = refl

module _ (n : ℕ) {c : Channel} {st : ℕ} {s t : St} (lk : LowEquiv c quiet s t) {r r' : List ℕ} (e : r ≡ r') where
  begin-times : (o : Op) {x y : tree.Out St Answer} → ApartBy c st (irq o) (SameAnswer c.number) true x y
      → time_after n (op_sort o) (stops (irq o) x).0 s.0 r ≡ time_after n (op_sort o) (stops (irq o) y).0 t.0 r'
  begin-times interrupt {x} {y} l = apart-time n (stops true x).0 s.0 r ∙ e
      ∙ sym (apart-time n (stops true y).0 t.0 r')
  begin-times (other o) {x} {y} l = apart-time n (stops false x).0 s.0 r ∙ e
      ∙ sym (apart-time n (stops false y).0 t.0 r')
  begin-times (aside o) {x} {y} l = apart-time n (stops false x).0 s.0 r ∙ e
      ∙ sym (apart-time n (stops false y).0 t.0 r')
  begin-times (slotted o) (end q l) = e
  begin-times (slotted o) (both {q = q} φ z p p' l k) = same-record n lk (slotted_sort o) (handed q) r
      ∙ ap (λ u. time_after n (slotted_sort o) (handed q) t.0 u) e
  begin-times (slotted o) (left w p z k) = absurd (true≢false (sym w.0))
  begin-times (slotted o) (right w p z k) = absurd (true≢false (sym w.0))
  begin-times (slotted o) (owns w w' l k k') = absurd (true≢false (sym w.0))

  begin-downs : (o : Op) {x y : tree.Out St Answer} → ApartBy c st (irq o) (SameAnswer c.number) true x y
      → turned_down n (op_sort o) (stops (irq o) x).0 s.0 r ≡ turned_down n (op_sort o) (stops (irq o) y).0 t.0 r'
  begin-downs interrupt l = refl
  begin-downs (other o) l = refl
  begin-downs (aside o) l = refl
  begin-downs (slotted o) (end {a = a} {b = b} q l) = ended-down n (slotted_sort o) a s.0 r
      ∙ sym (ended-down n (slotted_sort o) b t.0 r')
  begin-downs (slotted o) (both {q = q} φ z p p' l k) = same-turned-down n lk (slotted_sort o) (handed q) r
      ∙ ap (λ u. turned_down n (slotted_sort o) (handed q) t.0 u) e
  begin-downs (slotted o) (left w p z k) = absurd (true≢false (sym w.0))
  begin-downs (slotted o) (right w p z k) = absurd (true≢false (sym w.0))
  begin-downs (slotted o) (owns w w' l k k') = absurd (true≢false (sym w.0))

-- row 1: nor does it change the bus time
pub row_one : (share : Bool) (n : ℕ) (d : Call Config Op) (m : Machine Answer Driver) (t : List ℕ) (b : Buf)
    → drive d m b ≡ (ended (Refused 1), m) → shared share n d m t b ≡ ((ended (Refused 1), m), t)
row_one share n d m t b h = rw (h, ended-down n (sort_of d) (Refused 1) m.st t) refl

same-status : (w : Pending Answer Driver) (st : ℕ) → status_of w st st ≡ st
same-status idle st = refl
same-status (busy i a k) st = refl

-- turned down in both or in none
by_cond : (G : StepResult × List ℕ → StepResult × List ℕ → Type 0) (d d' : Bool)
    → d ≡ d' → (x x' y y' : StepResult × List ℕ) → G x x' → G y y' → G (cond d x y) (cond d' x' y')
by_cond G true d' e x x' y y' g h = subst (λ z. G x (cond z x' y')) e g
by_cond G false d' e x x' y y' g h = subst (λ z. G y (cond z x' y')) e h

module _ (c : Channel) (share : Bool) (n : ℕ) where
  abbrev two : (st : ℕ) (i : Bool) (o u : tree.Out St Answer) (q q' : Access) (a a' : Ans Answer) (t t' : List ℕ) → Two
  two st i o u q q' a a' t t' = record { first = run_of i o q a t; second = run_of i u q' a' t'; status = st }

  -- ---- a continue of both

  -- where both stay as they are, with an answer that is the same; where nothing is under way, whatever the next status
  -- word
  stays_by : (st w : ℕ) (i : Bool) {o u : tree.Out St Answer} (l : ApartBy c st i (SameAnswer c.number) true o u)
      (q q' : Access) {a a' : Ans Answer} {t t' : List ℕ} → Orderly i o a → Orderly i u a' → t ≡ t'
      → at_own c (run_of i o q a t) ≡ at_own c (run_of i u q' a' t')
      → Both c (two (status_of (stops i o).1.under_way_lem w st) i o u q q' (ended (Refused 1)) (ended (Refused 1)) t t')
  stays_by st w i (end x l) q q' k k' e m = record {
    stand = at w i (end x l) q q' (same _) (record { spares = λ _. at_end tt; few = tt; room = k.room })
        (record { spares = λ _. at_end tt; few = tt; room = k'.room }) e;
    answers = alike (same _);
  }
  stays_by st w i (both φ y p p' l f) q q' k k' e m = record {
    stand = at st i (both φ y p p' l f) q q' (same _) (record { spares = k.spares; few = tt; room = k.room })
        (record { spares = k'.spares; few = tt; room = k'.room }) e;
    answers = alike (same _);
  }
  stays_by st w i (owns v v' l f f') q q' k k' e m = record {
    stand = at st i (owns v v' l f f') q q' tt (record { spares = k.spares; few = tt; room = k.room })
        (record { spares = k'.spares; few = tt; room = k'.room }) e;
    answers = alike (same _);
  }
  stays_by st w i (left {s = s} {k = g} v p z f) q q' {a' = a'} {t' = r'} k k' e m =
      absurd (true≢false (sym (own-yes c.number g s v) ∙ m ∙ past-no c i q' a' r' p))
  stays_by st w i (right {t = t} {k = g} v p z f) q q' {a = a} {t = r} k k' e m =
      absurd (true≢false (sym (own-yes c.number g t v) ∙ sym m ∙ past-no c i q a r p))

  -- lent as the premise has it, with readings within their width
  abbrev Within : ℕ → ℕ → Buf → Buf → Two → Type 0
  Within v v' b b' w = (at_own c w.first ≡ false) × (at_own c w.second ≡ false)
      × BringsAt c w.first.machine.under_way_lem w.status w.first.access v v'
      × (wide w.first.machine.under_way_lem v ≡ false)
      × (wide w.second.machine.under_way_lem v' ≡ false) × StoredAlike c (state_of w.first) (state_of w.second) b
      b'

  goes-within : (st : ℕ) (i : Bool) {o u : tree.Out St Answer} (l : ApartBy c st i (SameAnswer c.number) true o u)
      (q q' : Access) {a a' : Ans Answer} {t t' : List ℕ} → Orderly i o a → Orderly i u a' → t ≡ t'
      → (v v' : ℕ) (b b' : Buf) → Within v v' b b' (two st i o u q q' a a' t t')
      → Both c (turn share n (goes v v' b b') (two st i o u q q' a a' t t'))
  goes-within st i (end {s = s} {t = t} x l) q q' {t = r} {t' = r'} k k' e v v' b b' m =
      let h = lent-like l m.5 in
      through (λ y y'. Both c (record {
        first = run_by q (y, time_after n going y.0 s.0 r);
        second = run_by q' (y', time_after n going y'.0 t.0 r');
        status = st;
      }))
      (go-idle c s b h.left v) (go-idle c t b' h.right v') (rooms (continue v) k.room b)
      (rooms (continue v') k'.room b') (λ f f'. record {
        stand = at st i (end x h) q q' (same _) (record { spares = λ _. at_end tt; few = tt; room = f.machine })
            (record { spares = λ _. at_end tt; few = tt; room = f'.machine }) e;
        answers = alike (same _);
      })
  goes-within st i (both {q = p} {s = s} {t = t} {k = g} {k' = g'} φ z w w' l f) q q' {t = r} {t' = r'} k k' e v v' b b'
      m =
      let h = lent-like l m.5 in
      let sp : (i ≡ true → Sparing (g v (s.0, b))) = λ y. spares-on (k.spares y) v (s.0, b) in
      let sp' : (i ≡ true → Sparing (g' v' (t.0, b'))) = λ y. spares-on (k'.spares y) v' (t.0, b') in
      through (λ y y'. Both c (record {
        first = run_by p (y, time_after n going y.0 s.0 r);
        second = run_by p (y', time_after n going y'.0 t.0 r');
        status = st;
      }))
      (go_busy c s b h.left i p g v m.3) (go_busy c t b' h.right i p g' v' m.4)
      (rooms (continue v) k.room b) (rooms (continue v') k'.room b')
      (λ x x'. lands st i (f v v' (s.0, b) (t.0, b') m.2 h) p p sp sp' x x'
      (times-on n (f v v' (s.0, b) (t.0, b') m.2 h) sp sp' s.0 t.0 e))
  goes-within st i (left {s = s} {k = g} w p z f) q q' k k' e v v' b b' m
      = absurd (true≢false (sym (own-yes c.number g s w) ∙ m.0))
  goes-within st i (right {t = t} {k = g} w p z f) q q' k k' e v v' b b' m
      = absurd (true≢false (sym (own-yes c.number g t w) ∙ m.1))
  goes-within st i (owns {s = s} {k = g} w w' l f f') q q' k k' e v v' b b' m
      = absurd (true≢false (sym (own-yes c.number g s w) ∙ m.0))

  -- row 16 in both: they stay at the access, lent what they are
  goes-wide : (st : ℕ) (i : Bool) {o u : tree.Out St Answer} (l : ApartBy c st i (SameAnswer c.number) true o u)
      (q q' : Access) {a a' : Ans Answer} {t t' : List ℕ} → Orderly i o a → Orderly i u a' → t ≡ t'
      → (v v' : ℕ) (b b' : Buf) → let w = two st i o u q q' a a' t t' in
      at_own c w.first ≡ false → at_own c w.second ≡ false → wide w.first.machine.under_way_lem v ≡ true
      → wide w.second.machine.under_way_lem v' ≡ true → StoredAlike c (state_of w.first) (state_of w.second) b b'
      → Both c (turn share n (goes v v' b b') w)
  goes-wide st i (end x l) q q' k k' e v v' b b' m m' z z' d = absurd (true≢false (sym z))
  goes-wide st i (both {q = p} {s = s} {t = t} {k = g} {k' = g'} φ y w w' l f) q q' {t = r} {t' = r'} k k' e v v' b b' m
      m' z z' d =
      let h = lent-like l d in
      through (λ y y'. Both c (record {
        first = run_by p (y, time_after n going y.0 s.0 r);
        second = run_by p (y', time_after n going y'.0 t.0 r');
        status = st;
      }))
      (go-wide c s b h.left i p g v z) (go-wide c t b' h.right i p g' v' z') (rooms (continue v) k.room b)
      (rooms (continue v') k'.room b') (λ x x'. record {
        stand = at st i (both φ y w w' h f) p p (same _) (record {
          spares = λ j. spares-put (s.0, b) (k.spares j);
          few = tt;
          room = x.machine;
        }) (record { spares = λ j. spares-put (t.0, b') (k'.spares j); few = tt; room = x'.machine }) e;
        answers = alike (same _);
      })
  goes-wide st i (left {s = s} {k = g} w p z f) q q' k k' e v v' b b' m m' y y' d
      = absurd (true≢false (sym (own-yes c.number g s w) ∙ m))
  goes-wide st i (right {t = t} {k = g} w p z f) q q' k k' e v v' b b' m m' y y' d
      = absurd (true≢false (sym (own-yes c.number g t w) ∙ m'))
  goes-wide st i (owns {s = s} {k = g} w w' l f f') q q' k k' e v v' b b' m m' y y' d
      = absurd (true≢false (sym (own-yes c.number g s w) ∙ m))

  -- row 1 in both
  refused-by : (st w : ℕ) (i : Bool) {o u : tree.Out St Answer} (l : ApartBy c st i (SameAnswer c.number) true o u)
      (q q' : Access) {a a' : Ans Answer} {t t' : List ℕ} → Orderly i o a → Orderly i u a' → t ≡ t'
      → at_own c (run_of i o q a t) ≡ at_own c (run_of i u q' a' t')
      → (d d' : Call Config Op) (b b' : Buf) → drive d (stops i o).1 b ≡ (ended (Refused 1), (stops i o).1)
      → drive d' (stops i u).1 b' ≡ (ended (Refused 1), (stops i u).1)
      → Both c (record {
        first = called share n d b (run_of i o q a t);
        second = called share n d' b' (run_of i u q' a' t');
        status = status_of (stops i o).1.under_way_lem w st;
      })
  refused-by st w i {o} {u} l q q' {a' = a'} {t = t} {t' = t'} k k' e m d d' b b' h h' =
      subst (λ z. Both c (record {
        first = run_by (access_of (stops i o).0 q) z;
        second = called share n d' b' (run_of i u q' a' t');
        status = status_of (stops i o).1.under_way_lem w st;
      })) (sym (row_one share n d (stops i o).1 t b h))
      (subst (λ z. Both c (record {
        first = run_of i o q (ended (Refused 1)) t;
        second = run_by (access_of (stops i u).0 q') z;
        status = status_of (stops i o).1.under_way_lem w st;
      })) (sym (row_one share n d' (stops i u).1 t' b' h'))
      (stays_by st w i l q q' k k' e m))

  pub goes_by : (st : ℕ) (i : Bool) {o u : tree.Out St Answer} (l : ApartBy c st i (SameAnswer c.number) true o u)
      (q q' : Access) {a a' : Ans Answer} {t t' : List ℕ} → Orderly i o a → Orderly i u a' → t ≡ t'
      → (v v' : ℕ) (b b' : Buf) → May c (goes v v' b b') (two st i o u q q' a a' t t')
      → Both c (turn share n (goes v v' b b') (two st i o u q q' a a' t t'))
  goes_by st i {o} {u} l q q' {a} {a'} {t} {t'} k k' e v v' b b' m = by m.2
    where
      w : Two
      w = two st i o u q q' a a' t t'

      by : BothGo c st v v' w.first w.second b b' → Both c (turn share n (goes v v' b b') w)
      by (go_row1 h h') = subst (λ x. Both c (record {
        first = called share n (continue v) b w.first;
        second = called share n (continue v') b' w.second;
        status = x;
      })) (same-status (stops i o).1.under_way_lem st)
          (refused-by st st i l q q' k k' e (m.0 ∙ sym m.1) (continue v) (continue v') b b'
          (go-unfit w.first v b h) (go-unfit w.second v' b' h'))
      by (go_row16 h h' d) = goes-wide st i l q q' k k' e v v' b b' m.0 m.1 h h' d
      by (go_on h h' r d) = goes-within st i l q q' k k' e v v' b b' (m.0, m.1, r, h, h', d)

  -- ---- a call of both

  -- open, close or queue of another endpoint, where both stand at a common access or at one of the channel's own
  module _ (st : ℕ) (i : Bool) (j : i ≡ true) (o : Aside)
      (x : Others c.number o) {s t : St} (p p' : Access) (g g' : ℕ → St → tree.Out St Answer) (b b' : Buf)
      (h : LowEquiv c quiet (s.0, b) (t.0, b')) (a a' : Ans Answer) (r r' : List ℕ) (k : Orderly i (asks p s g) a)
      (k' : Orderly i (asks p' t g') a')
      (G : Run → Run → Type 0)
      (f : (d d' : Answer) (u u' : St) → SameAnswer c.number d d' → LowEquiv c quiet u u'
      → Rooms (ended d, machine_of (busy i (awaited p) g) u) → Rooms (ended d', machine_of (busy i (awaited p') g') u')
      → G (run_of i (asks p u g) p (ended d) r) (run_of i (asks p' u' g') p' (ended d') r')) where
    passes : G (run_by p (
      drive (begin (aside o)) (machine_of (busy i (awaited p) g) s) b,
      time_after n sharing.apart (drive (begin (aside o)) (machine_of (busy i (awaited p) g) s) b).0 s.0 r,
    ))
        (run_by p' (
          drive (begin (aside o)) (machine_of (busy i (awaited p') g') t) b',
          time_after n sharing.apart (drive (begin (aside o)) (machine_of (busy i (awaited p') g') t) b').0 t.0 r',
        ))
    passes =
        let z = ended-aside c st o x h in
        through (λ y y'. G (run_by p (y, time_after n sharing.apart y.0 s.0 r))
        (run_by p' (y', time_after n sharing.apart y'.0 t.0 r')))
        (aside-busy c s b h.left o i j p g ∙ ap (λ u. during_interrupt calls driver_of
        (machine_of (busy i (awaited p) g) (s.0, b)) u) z.is)
        (aside-busy c t b' h.right o i j p' g' ∙ ap
        (λ u. during_interrupt calls driver_of (machine_of (busy i (awaited p') g') (t.0, b')) u) z.is')
        (rooms (begin (aside o)) k.room b) (rooms (begin (aside o)) k'.room b')
        (λ y y'. f z.value z.value' z.state z.state' z.same z.like y y')

  abbrev Runs : ℕ → Access → Access → StepResult × List ℕ → StepResult × List ℕ → Type 0
  Runs st q q' y y' = Both c (record { first = run_by q y; second = run_by q' y'; status = st })

  -- lent as the premise has it
  abbrev Lends : Op → Buf → Buf → Two → Type 0
  Lends op b b' w = (at_own c w.first ≡ at_own c w.second) × Common c.number op
      × Timely w.first.machine.under_way_lem op × StoredAlike c (state_of w.first) (state_of w.second) b b'

  begins-lent : (st : ℕ) (i : Bool) {o u : tree.Out St Answer} (l : ApartBy c st i (SameAnswer c.number) true o u)
      (q q' : Access) {a a' : Ans Answer} {t t' : List ℕ} → Orderly i o a → Orderly i u a' → t ≡ t'
      → (w : ℕ) (op : Op) (b b' : Buf) → Lends op b b' (two st i o u q q' a a' t t')
      → Both c (turn share n (begins w op b b') (two st i o u q q' a a' t t'))
  begins-lent st i (end {s = s} {t = t} x l) q q' {t = r} {t' = r'} k k' e w op b b' m =
      let h = lent-like l m.3 in
      let z = (p-call c w op m.1).on (s.0, b) (t.0, b') h in
      through
      (λ y y'. Runs w q q' (cond (turned_down n (op_sort op) y.0 s.0 r && share) (
        (ended (Refused 19), lent_to calls driver_of (machine_of idle s) b),
        r,
      ) (y, time_after n (op_sort op) y.0 s.0 r))
      (cond (turned_down n (op_sort op) y'.0 t.0 r' && share) (
        (ended (Refused 19), lent_to calls driver_of (machine_of idle t) b'),
        r',
      ) (y', time_after n (op_sort op) y'.0 t.0 r')))
      (begin_idle c s b h.left op) (begin_idle c t b' h.right op) (rooms (begin op) k.room b)
      (rooms (begin op) k'.room b')
      (λ f f'. by_cond (Runs w q q') _ _ (ap (λ d. d && share) (begin-downs n l e op z)) _ _ _ _
      (record {
        stand = at w i (end x h) q q' (same _) (record {
          spares = λ _. at_end tt;
          few = tt;
          room
              = lent-room k.room b;
        })
            (record { spares = λ _. at_end tt; few = tt; room = lent-room k'.room b' }) e;
        answers = alike (same _);
      })
      (lands w (irq op) z q q' (λ j. irq-spares op j (s.0, b)) (λ j. irq-spares op j (t.0, b')) f f'
      (begin-times n l e op z)))
  begins-lent st true (both {q = p} {s = s} {t = t} {k = g} {k' = g'} quiet z w w' l f) q q' {a = a} {a' = a'} {t = r}
      {t' = r'} k k' e v (aside o) b b' m =
      passes st true refl o m.1 p p g g' b b' (lent-like l m.3) a a' r r' k k'
      (λ y y'. Both c (record { first = y; second = y'; status = st }))
      (λ d d' u u' x h y y'. record {
        stand = at st true (both quiet z w w' h f) p p (same-ans x y.answer y'.answer) (record {
          spares = λ j. spares-put u (k.spares j);
          few = y.answer;
          room = y.machine;
        }) (record { spares = λ j. spares-put u' (k'.spares j); few = y'.answer; room = y'.machine }) e;
        answers = alike (same-ans x y.answer y'.answer);
      })
  begins-lent st true (both (mid y j) z w w' l f) q q' k k' e v op b b' m = absurd z.0
  begins-lent st false (both {q = p} {s = s} {t = t} {k = g} {k' = g'} φ z w w' l f) q q' {t = r} {t' = r'} k k' e v
      (aside o) b b' m =
      let h = lent-like l m.3 in
      through (λ y y'. Both c (record {
        first = run_by p (y, time_after n sharing.apart y.0 s.0 r);
        second = run_by p (y', time_after n sharing.apart y'.0 t.0 r');
        status = st;
      }))
      (aside-late c s b h.left o p g) (aside-late c t b' h.right o p g') (rooms (begin (aside o)) k.room b)
      (rooms (begin (aside o)) k'.room b')
      (λ y y'. record {
        stand = at st false (both φ z w w' h f) p p (same _) (record {
          spares = λ j. absurd (true≢false (sym j));
          few = tt;
          room = y.machine;
        }) (record { spares = λ j. absurd (true≢false (sym j)); few = tt; room = y'.machine }) e;
        answers = alike (same _);
      })
  begins-lent st i (owns {q = p} {q' = p'} {s = s} {t = t} {k = g} {k' = g'} w w' l f f') q q' {a = a} {a' = a'} {t = r}
      {t' = r'} k k' e v (aside o) b b' m =
      passes st i w.0 o m.1 p p' g g' b b' (lent-like l m.3) a a' r r' k k'
      (λ y y'. Both c (record { first = y; second = y'; status = st }))
      (λ d d' u u' x h y y'. record {
        stand = at st i (owns w w' h f f') p p' tt (record {
          spares = λ j. spares-put u (k.spares j);
          few = y.answer;
          room = y.machine;
        }) (record { spares = λ j. spares-put u' (k'.spares j); few = y'.answer; room = y'.machine }) e;
        answers = alike (same-ans x y.answer y'.answer);
      })
  begins-lent st i (left {s = s} {k = g} w p z f) q q' {a' = a'} {t' = r'} k k' e v op b b' m =
      absurd (true≢false (sym (own-yes c.number g s w) ∙ m.0 ∙ past-no c i q' a' r' p))
  begins-lent st i (right {t = t} {k = g} w p z f) q q' {a = a} {t = r} k k' e v op b b' m =
      absurd (true≢false (sym (own-yes c.number g t w) ∙ sym m.0 ∙ past-no c i q a r p))
  begins-lent st true (both quiet z w w' l f) q q' k k' e v interrupt b b' m = absurd m.2
  begins-lent st true (both quiet z w w' l f) q q' k k' e v (slotted o) b b' m = absurd m.2
  begins-lent st true (both quiet z w w' l f) q q' k k' e v (other o) b b' m = absurd m.2
  begins-lent st false (both φ z w w' l f) q q' k k' e v interrupt b b' m = absurd m.2
  begins-lent st false (both φ z w w' l f) q q' k k' e v (slotted o) b b' m = absurd m.2
  begins-lent st false (both φ z w w' l f) q q' k k' e v (other o) b b' m = absurd m.2
  begins-lent st i (owns w w' l f f') q q' k k' e v interrupt b b' m = absurd m.2
  begins-lent st i (owns w w' l f f') q q' k k' e v (slotted o) b b' m = absurd m.2
  begins-lent st i (owns w w' l f f') q q' k k' e v (other o) b b' m = absurd m.2

  pub begins-by : (st : ℕ) (i : Bool) {o u : tree.Out St Answer} (l : ApartBy c st i (SameAnswer c.number) true o u)
      (q q' : Access) {a a' : Ans Answer} {t t' : List ℕ} → Orderly i o a → Orderly i u a' → t ≡ t'
      → (v : ℕ) (op : Op) (b b' : Buf) → May c (begins v op b b') (two st i o u q q' a a' t t')
      → Both c (turn share n (begins v op b b') (two st i o u q q' a a' t t'))
  begins-by st i {o} {u} l q q' {a} {a'} {t} {t'} k k' e v op b b' m = by m.3
    where
      w : Two
      w = two st i o u q q' a a' t t'

      by : BothCall c op w.first w.second b b' → Both c (turn share n (begins v op b b') w)
      by (call_row1 h h') = refused-by st v i l q q' k k' e m.0 (begin op) (begin op) b b'
          (begin-unfit w.first op b h) (begin-unfit w.second op b' h')
      by (call_lent d) = begins-lent st i l q q' k k' e v op b b' (m.0, m.1, m.2, d)

  -- ---- a question of both

  pub asked_by_lem : (st : ℕ) (i : Bool) {o u : tree.Out St Answer} (l : ApartBy c st i (SameAnswer c.number) true o u)
      (q q' : Access) {a a' : Ans Answer} {t t' : List ℕ} → Orderly i o a → Orderly i u a' → t ≡ t'
      → (w : Question) (b b' : Buf) → May c (asked w b b') (two st i o u q q' a a' t t')
      → Both c (turn share n (asked w b b') (two st i o u q q' a a' t t'))
  asked_by_lem st i (end x l) q q' k k' e w b b' m = record {
    stand = at st i (end x (lent-like l m.2)) q q' (told_same (same-answers l w m.1)) (record {
      spares = λ _. at_end tt;
      few = tt;
      room = lent-room k.room b;
    }) (record { spares = λ _. at_end tt; few = tt; room = lent-room k'.room b' }) e;
    answers = alike (told_same (same-answers l w m.1));
  }
  asked_by_lem st i (both {s = s} {t = t} φ z p p' l f) q q' k k' e w b b' m = record {
    stand = at st i (both φ z p p' (lent-like l m.2) f) q q' (told_same (same-answers l w m.1))
        (record { spares = λ j. spares-put (s.0, b) (k.spares j); few = tt; room = lent-room k.room b })
        (record { spares = λ j. spares-put (t.0, b') (k'.spares j); few = tt; room = lent-room k'.room b' }) e;
    answers = alike (told_same (same-answers l w m.1));
  }
  asked_by_lem st i (owns {s = s} {t = t} v v' l f f') q q' k k' e w b b' m = record {
    stand = at st i (owns v v' (lent-like l m.2) f f') q q' tt
        (record { spares = λ j. spares-put (s.0, b) (k.spares j); few = tt; room = lent-room k.room b })
        (record { spares = λ j. spares-put (t.0, b') (k'.spares j); few = tt; room = lent-room k'.room b' }) e;
    answers = alike (told_same (same-answers l w m.1));
  }
  asked_by_lem st i (left {s = s} {k = g} w p z f) q q' {a' = a'} {t' = r'} k k' e v b b' m =
      absurd (true≢false (sym (own-yes c.number g s w) ∙ m.0 ∙ past-no c i q' a' r' p))
  asked_by_lem st i (right {t = t} {k = g} w p z f) q q' {a = a} {t = r} k k' e v b b' m =
      absurd (true≢false (sym (own-yes c.number g t w) ∙ sym m.0 ∙ past-no c i q a r p))

  -- ---- stores in both

  pub stores-by : (st : ℕ) (i : Bool) {o u : tree.Out St Answer} (l : ApartBy c st i (SameAnswer c.number) true o u)
      (q q' : Access) {a a' : Ans Answer} {t t' : List ℕ} → Told l a a' → Orderly i o a → Orderly i u a' → t ≡ t'
      → (b b' : Buf) → May c (stores b b') (two st i o u q q' a a' t t')
      → At c (turn share n (stores b b') (two st i o u q q' a a' t t'))
  stores-by st i (end x l) q q' h k k' e b b' m =
      at st i (end x (lent-like l m.1)) q q' h (record {
        spares = λ _. at_end tt;
        few = k.few;
        room = lent-room k.room b;
      }) (record { spares = λ _. at_end tt; few = k'.few; room = lent-room k'.room b' }) e
  stores-by st i (both {s = s} {t = t} φ z p p' l f) q q' h k k' e b b' m
      = at st i (both φ z p p' (lent-like l m.1) f) q q' h
      (record { spares = λ j. spares-put (s.0, b) (k.spares j); few = k.few; room = lent-room k.room b })
      (record { spares = λ j. spares-put (t.0, b') (k'.spares j); few = k'.few; room = lent-room k'.room b' }) e
  stores-by st i (owns {s = s} {t = t} v v' l f f') q q' h k k' e b b' m
      = at st i (owns v v' (lent-like l m.1) f f') q q' tt
      (record { spares = λ j. spares-put (s.0, b) (k.spares j); few = k.few; room = lent-room k.room b })
      (record { spares = λ j. spares-put (t.0, b') (k'.spares j); few = k'.few; room = lent-room k'.room b' }) e
  stores-by st i (left {s = s} {k = g} w p z f) q q' {a' = a'} {t' = r'} h k k' e b b' m =
      absurd (true≢false (sym (own-yes c.number g s w) ∙ m.0 ∙ past-no c i q' a' r' p))
  stores-by st i (right {t = t} {k = g} w p z f) q q' {a = a} {t = r} h k k' e b b' m =
      absurd (true≢false (sym (own-yes c.number g t w) ∙ sym m.0 ∙ past-no c i q a r p))
