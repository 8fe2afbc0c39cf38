-- What one of the two runs gets alone: the continues of the channel's own accesses, its opens, closes and polls; and at
-- any access a continue that is refused
use Rattle.std.specs.Prelude.{Bool, true, false, List, ◌≡◌, refl, ℕ, zero, suc}
use Rattle.std.proofs.Common.{true≢false, subst, sym, ◌∙◌}
use Rattle.regs.specs.declared.Access.{Access}
use Rattle.regs.specs.declared.Dir.TheVariants.{Out}
use Rattle.state.specs.Driver.{key}
use Rattle.script.specs.Tree as tree
use Rattle.script.specs.Tree.{ends, asks}
use Rattle.script.specs.Every.{at_end}
use Rattle.script.specs.Answers.{Answer, Refused}
use Rattle.script.specs.Simulates.{quiet, mid}
use Rattle.script.specs.Calls.{Config, PollRead, Op, slotted, aside, Aside, calls, start_row}
use Rattle.script.specs.Machine.{Buf, Call, start, begin, continue, question, Ans, ended, awaited, busy}
use Rattle.script.specs.Machine.{during_interrupt, started}
use Rattle.script_ops.specs.Rings.{St}
use Rattle.machine.specs.Suspended.{driver_of, drive}
use Rattle.calls.specs.Sharing as sharing
use Rattle.calls.specs.Sharing.{going, time_after}
use Rattle.proof_wake_ups.specs.Rooms.{Few, Rooms}
use Rattle.proof_wake_ups.proofs.RoomsLaws.{rooms}
use Rattle.proof_isolation.specs.EqualExcept.{Lawful, Channel, Touched}
use Rattle.proof_isolation.specs.Whose.{sof}
use Rattle.proof_isolation.specs.Apart.{gone, waits, ApartBy, end, both, left, right, owns}
use Rattle.proof_isolation.specs.Answers.{SameAnswer}
use Rattle.proof_isolation.specs.LikesLaws.{touch, touched-refl, touched-trans}
use Rattle.proof_isolation.specs.Ending.{Finished, fin}
use Rattle.proof_isolation.specs.Asides.{Mine}
use Rattle.proof_isolation.proofs.AsidesLaws.{own-finishes}
use Rattle.proof_isolation.specs.Operations.{OfChannel, polls, passes}
use Rattle.proof_isolation.specs.OwnReadingLaws.{own-polls}
use Rattle.proof_isolation.specs.Stores.{OwnLent}
use Rattle.proof_isolation.specs.StoresLaws.{own_like}
use Rattle.calls.specs.SparesLaws.{spares-on}
use Rattle.proof_isolation.specs.Schedule.{Run, Two, access_of, run_by, own_by, alone, apart, state_of, Timely, wide}
use Rattle.proof_isolation.specs.Schedule.{refusing, at_own, OwnCall, own_row1}
use Rattle.proof_isolation.specs.Schedule.{own_lent, Alone, Refuses, back_row1, back_lent}
use Rattle.proof_isolation.proofs.Standing.{machine_of, stops, run_of, own-no, Told, telling, telling-own, Orderly}
use Rattle.proof_isolation.proofs.Standing.{At, at}
use Rattle.proof_isolation.proofs.StandingLaws.{past-no, time-spared}
use Rattle.proof_isolation.proofs.Runs.{go-idle, go_busy, go-wide, go-unfit, begin_idle, begin-unfit, aside-busy}
use Rattle.proof_isolation.proofs.Runs.{aside-late, spares-put, row_one}
use Rattle.proof_isolation.specs.RunsLaws.{through-one}

-- ---- where the one is touched they line up as before

module _ {c : Channel} {st : ℕ} {i : Bool} where
  pub lawful-rests : {a : Answer} {s : St} {u : tree.Out St Answer}
      → ApartBy c st i (SameAnswer c.number) true (ends a s) u → Lawful c.iso quiet s
  lawful-rests (end x l) = l.left
  lawful-rests (right {t = t} w p z f) = lawful-rests (f sof t (touched-refl z))

  touch-rests : {a : Answer} {s s' : St} {u : tree.Out St Answer}
      → ApartBy c st i (SameAnswer c.number) true (ends a s) u
      → Touched c quiet s s' → ApartBy c st i (SameAnswer c.number) true (ends a s') u
  touch-rests (end x l) m = end x (touch m l)
  touch-rests (right w gone z f) m = right w gone z (λ v t u. touch-rests (f v t u) m)

  told-rests : {a : Answer} {s s' : St} {u : tree.Out St Answer}
      (l : ApartBy c st i (SameAnswer c.number) true (ends a s) u)
      (m : Touched c quiet s s') (b b' : Ans Answer) → Told l b b' → Told (touch-rests l m) b b'
  unfolding touch-rests
  told-rests (end x l) m b b' h = h
  told-rests (right w gone z f) m b b' h = h

module _ {c : Channel} {st : ℕ} where
  -- at an access of an interrupt
  pub lawful-busy : {q : Access} {s : St} {k : ℕ → St → tree.Out St Answer} {u : tree.Out St Answer}
      → ApartBy c st true (SameAnswer c.number) true (asks q s k) u → Lawful c.iso quiet s
  lawful-busy (both quiet z w w' l f) = l.left
  lawful-busy (both (mid g n) z w w' l f) = absurd z.0
  lawful-busy (left w p z f) = z
  lawful-busy (right {t = t} w p z f) = lawful-busy (f sof t (touched-refl z))
  lawful-busy (owns w w' l f f') = l.left

  touch-busy : {q : Access} {s s' : St} {k : ℕ → St → tree.Out St Answer} {u : tree.Out St Answer}
      → ApartBy c st true (SameAnswer c.number) true (asks q s k) u → Touched c quiet s s'
      → ApartBy c st true (SameAnswer c.number) true (asks q s' k) u
  touch-busy (both quiet z w w' l f) m = both quiet z w w' (touch m l) f
  touch-busy (both (mid g n) z w w' l f) m = absurd z.0
  touch-busy (left w p z f) m = left w p m.right (λ v s u. f v s (touched-trans m u))
  touch-busy (right w (waits n) z f) m = right w (waits n) z (λ v t u. touch-busy (f v t u) m)
  touch-busy (owns w w' l f f') m = owns w w' (touch m l) f f'

  told-busy : {q : Access} {s s' : St} {k : ℕ → St → tree.Out St Answer} {u : tree.Out St Answer}
      (l : ApartBy c st true (SameAnswer c.number) true (asks q s k) u) (m : Touched c quiet s s')
      (b b' : Ans Answer)
      → Told l b b' → Told (touch-busy l m) b b'
  unfolding touch-busy
  told-busy (both quiet z w w' l f) m b b' h = h
  told-busy (both (mid g n) z w w' l f) m b b' h = absurd z.0
  told-busy (left w p z f) m b b' h = h
  told-busy (right w (waits n) z f) m b b' h = h
  told-busy (owns w w' l f f') m b b' h = tt

widened : {c : Channel} {s t : St} → Touched c quiet s t → {u : tree.Out St Answer} → Finished (Touched c quiet t) u
    → Finished (Touched c quiet s) u
widened m (fin a k) = fin a (touched-trans m k)

module _ (c : Channel) (share : Bool) (n : ℕ) where
  abbrev one : (st : ℕ) (i : Bool) (x : Run) (u : tree.Out St Answer) (q : Access) (a : Ans Answer) (t : List ℕ) → Two
  one st i x u q a t = record { first = x; second = run_of i u q a t; status = st }

  -- ---- the continue of an access of the channel's own

  -- its reading is within its width
  abbrev Within : ℕ → Buf → Run → Type 0
  Within v b r = (at_own c r ≡ true) × (wide r.machine.under_way_lem v ≡ false) × OwnLent c (state_of r) b

  within-go : (st : ℕ) (i : Bool) {o u : tree.Out St Answer} (l : ApartBy c st i (SameAnswer c.number) true o u)
      (q q' : Access) {a a' : Ans Answer} {t t' : List ℕ} → Told l a a' → Orderly i o a → Orderly i u a' → t ≡ t'
      → (v : ℕ) (b : Buf) → Within v b (run_of i o q a t)
      → At c (one st i (alone share n (continue v) b (run_of i o q a t)) u q' a' t')
  within-go st i (end x l) q q' h k k' e v b m = absurd (true≢false (sym m.0))
  within-go st i (both {s = s} {k = g} φ z w w' l f) q q' h k k' e v b m
      = absurd (true≢false (sym m.0 ∙ own-no c.number g s w))
  within-go st i (left {q = p} {s = s} {k = g} {u = u} w y z f) q q' {a' = a'} {t = r} {t' = r'} h k k' e v b m =
      let d = own_like z m.2 in
      through-one (λ y. At c (one st i (run_by p (y, time_after n going y.0 s.0 r)) u q' a' r'))
      (go_busy c s b d.right i p g v m.1) (rooms (continue v) k.room b)
      (λ x. at st i (f v (s.0, b) d) p q' (subst (λ z. Told (f v (s.0, b) d) (stops i (g v (s.0, b))).0 z)
      (sym h) (telling (f v (s.0, b) d) x.answer (subst Few h k'.few)))
      (record {
        spares = λ j. spares-on (k.spares j) v (s.0, b);
        few = x.answer;
        room = x.machine;
      }) k' (time-spared n i s.0 r (spares-on (k.spares w.0) v (s.0, b)) ∙ e))
  within-go st i (right w p z f) q q' {a = a} {t = r} h k k' e v b m
      = absurd (true≢false (sym m.0 ∙ past-no c i q a r p))
  within-go st i (owns {q = p} {q' = p'} {s = s} {t = t} {k = g} {k' = g'} w w' l f f') q q' {a' = a'} {t = r} {t' = r'}
      h k k' e v b m =
      let d = own_like l.left m.2 in
      through-one (λ y. At c (one st i (run_by p (y, time_after n going y.0 s.0 r)) (asks p' t g') q' a' r'))
      (go_busy c s b d.right i p g v m.1) (rooms (continue v) k.room b)
      (λ x. at st i (f v (s.0, b) t (touch d l)) p q' (telling-own (f v (s.0, b) t (touch d l)) w' a')
      (record {
        spares = λ j. spares-on (k.spares j) v (s.0, b);
        few = x.answer;
        room = x.machine;
      }) k' (time-spared n i s.0 r (spares-on (k.spares w.0) v (s.0, b)) ∙ e))

  -- row 16: it stays awaited
  wide-go : (st : ℕ) (i : Bool) {o u : tree.Out St Answer} (l : ApartBy c st i (SameAnswer c.number) true o u)
      (q q' : Access) {a a' : Ans Answer} {t t' : List ℕ} → Told l a a' → Orderly i o a → Orderly i u a' → t ≡ t'
      → (v : ℕ) (b : Buf) → at_own c (run_of i o q a t) ≡ true → wide (stops i o).1.under_way_lem v ≡ true
      → OwnLent c (state_of (run_of i o q a t)) b → At c
      (one st i (alone share n (continue v) b (run_of i o q a t)) u q' a' t')
  wide-go st i (end x l) q q' h k k' e v b m z d = absurd (true≢false (sym m))
  wide-go st i (both {s = s} {k = g} φ y w w' l f) q q' h k k' e v b m z d
      = absurd (true≢false (sym m ∙ own-no c.number g s w))
  wide-go st i (right w p y f) q q' {a = a} {t = r} h k k' e v b m z d
      = absurd (true≢false (sym m ∙ past-no c i q a r p))
  wide-go st i (left {q = p} {s = s} {k = g} {u = u} w y x f) q q' {a' = a'} {t = r} {t' = r'} h k k' e v b m z d =
      let j = own_like x d in
      through-one (λ y. At c (one st i (run_by p (y, time_after n going y.0 s.0 r)) u q' a' r'))
      (go-wide c s b j.right i p g v z) (rooms (continue v) k.room b)
      (λ x. at st i (left w y j.right (λ v s u. f v s (touched-trans j u))) p q' h (record {
        spares = λ y. spares-put (s.0, b) (k.spares y);
        few = tt;
        room = x.machine;
      }) k' e)
  wide-go st i (owns {q = p} {q' = p'} {s = s} {t = t} {k = g} {k' = g'} w w' l f f') q q' {a' = a'} {t = r} {t' = r'} h
      k k' e v b m z d =
      let j = own_like l.left d in
      through-one (λ y. At c (one st i (run_by p (y, time_after n going y.0 s.0 r)) (asks p' t g') q' a' r'))
      (go-wide c s b j.right i p g v z) (rooms (continue v) k.room b)
      (λ x. at st i (owns w w' (touch j l) f f') p q' tt
      (record { spares = λ y. spares-put (s.0, b) (k.spares y); few = tt; room = x.machine }) k' e)

  -- row 1: it stays as it is
  stay-go : (st : ℕ) (i : Bool) {o u : tree.Out St Answer} (l : ApartBy c st i (SameAnswer c.number) true o u)
      (q q' : Access) {a a' : Ans Answer} {t t' : List ℕ} → Told l a a' → Orderly i o a → Orderly i u a' → t ≡ t'
      → at_own c (run_of i o q a t) ≡ true → At c (one st i (run_of i o q (ended (Refused 1)) t) u q' a' t')
  stay-go st i (end x l) q q' h k k' e m = absurd (true≢false (sym m))
  stay-go st i (both {s = s} {k = g} φ y w w' l f) q q' h k k' e m
      = absurd (true≢false (sym m ∙ own-no c.number g s w))
  stay-go st i (right w p y f) q q' {a = a} {t = r} h k k' e m = absurd (true≢false (sym m ∙ past-no c i q a r p))
  stay-go st i (left w y z f) q q' h k k' e m = at st i (left w y z f) q q' h
      (record { spares = k.spares; few = tt; room = k.room }) k' e
  stay-go st i (owns w w' l f f') q q' h k k' e m = at st i (owns w w' l f f') q q' tt
      (record { spares = k.spares; few = tt; room = k.room }) k' e

  alone-go : (st : ℕ) (i : Bool) {o u : tree.Out St Answer} (l : ApartBy c st i (SameAnswer c.number) true o u)
      (q q' : Access) {a a' : Ans Answer} {t t' : List ℕ} → Told l a a' → Orderly i o a → Orderly i u a' → t ≡ t'
      → (v : ℕ) (b : Buf) → Alone c (continue v) b (run_of i o q a t)
      → At c (one st i (alone share n (continue v) b (run_of i o q a t)) u q' a' t')
  alone-go st i {o} {u} l q q' {a} {a'} {t} {t'} h k k' e v b m = by m.1
    where
      within : (x : Bool) → wide (stops i o).1.under_way_lem v ≡ x → OwnLent c (state_of (run_of i o q a t)) b
          → At c (one st i (alone share n (continue v) b (run_of i o q a t)) u q' a' t')
      within true z d = wide-go st i l q q' h k k' e v b m.0 z d
      within false z d = within-go st i l q q' h k k' e v b (m.0, z, d)

      by : OwnCall c (continue v) (run_of i o q a t) b → At c
          (one st i (alone share n (continue v) b (run_of i o q a t)) u q' a' t')
      by (own_row1 z) =
          subst (λ y. At c (one st i (run_by (access_of (stops i o).0 q) y) u q' a' t'))
          (sym (row_one share n (continue v) (stops i o).1 t b (go-unfit (run_of i o q a t) v b z)))
          (stay-go st i l q q' h k k' e m.0)
      by (own_lent d) = within (wide (stops i o).1.under_way_lem v) refl d

  -- ---- its own calls

  -- with nothing under way
  moves-rests : (st : ℕ) (i : Bool) {d : Answer} {s : St} {u : tree.Out St Answer}
      (l : ApartBy c st i (SameAnswer c.number) true (ends d s) u) (q q' : Access) {a a' : Ans Answer}
      {t t' : List ℕ}
      → Told l a a' → Orderly i (ends d s) a
      → Orderly i u a' → t ≡ t' → {y : tree.Out St Answer} → Finished (Touched c quiet s) y → Rooms (stops false y)
      → At c (one st i (own_by q a (stops false y, time_after n sharing.apart (stops false y).0 s.0 t)) u q' a' t')
  moves-rests st i l q q' {a = a} {a' = a'} h k k' e (fin x m) r = at st i (touch-rests l m) q q'
      (told-rests l m a a' h) (record { spares = λ _. at_end tt; few = k.few; room = r.machine }) k' e

  moves-busy : (st : ℕ) {p : Access} {s : St} {g : ℕ → St → tree.Out St Answer} {u : tree.Out St Answer}
      (l : ApartBy c st true (SameAnswer c.number) true (asks p s g) u) (q q' : Access) {a a' : Ans Answer}
      {t t' : List ℕ}
      → Told l a a'
      → Orderly true (asks p s g) a → Orderly true u a' → t ≡ t' → (b : Buf) {y : tree.Out St Answer}
      → Finished (Touched c quiet s) y → Rooms (during_interrupt calls driver_of
      (machine_of (busy true (awaited p) g) (s.0, b)) y)
      → At c (one st true (own_by p a (
        during_interrupt calls driver_of (machine_of (busy true (awaited p) g) (s.0, b)) y,
        time_after n sharing.apart (during_interrupt calls driver_of (machine_of (busy true (awaited p) g) (s.0, b)) y).0
            s.0 t,
      )) u q' a' t')
  moves-busy st {p = p} l q q' {a = a} {a' = a'} h k k' e b (fin x {s = s} m) r = at st true (touch-busy l m) p q'
      (told-busy l m a a' h) (record { spares = λ j. spares-put s (k.spares j); few = k.few; room = r.machine }) k' e

  -- refused during an operation that is no interrupt
  moves-late : (st : ℕ) {p : Access} {s : St} {g : ℕ → St → tree.Out St Answer} {u : tree.Out St Answer}
      (l : ApartBy c st false (SameAnswer c.number) true (asks p s g) u) (q q' : Access) {a a' : Ans Answer}
      {t t' : List ℕ}
      → Told l a a'
      → Orderly false (asks p s g) a → Orderly false u a' → t ≡ t' → (o : Aside) (b : Buf) → OwnLent c s b
      → At c (one st false (own_by p a (
        drive (begin (aside o)) (machine_of (busy false (awaited p) g) s) b,
        time_after n sharing.apart (drive (begin (aside o)) (machine_of (busy false (awaited p) g) s) b).0 s.0 t,
      )) u q' a' t')
  moves-late st (both {q = p} {s = s} {t = t} {k = g} {k' = g'} φ z w w' l f) q q' {a = a} {a' = a'} {t = r} {t' = r'} h
      k k' e o b m =
      let d = own_like l.left m in
      through-one (λ y. At c (one st false (own_by p a (y, time_after n sharing.apart y.0 s.0 r)) (asks p t g') q'
      a' r'))
      (aside-late c s b d.right o p g) (rooms (begin (aside o)) k.room b)
      (λ x. at st false (both φ z w w' (touch d l) f) p q' h
      (record { spares = λ j. absurd (true≢false (sym j)); few = k.few; room = x.machine }) k' e)
  moves-late st (left w p z f) q q' h k k' e o b m = absurd (true≢false (sym w.0))
  moves-late st (right w p z f) q q' h k k' e o b m = absurd (true≢false (sym w.0))
  moves-late st (owns w w' l f f') q q' h k k' e o b m = absurd (true≢false (sym w.0))

  alone-aside : (st : ℕ) (i : Bool) (x : tree.Out St Answer) {u : tree.Out St Answer}
      (l : ApartBy c st i (SameAnswer c.number) true x u) (q q' : Access) {a a' : Ans Answer} {t t' : List ℕ}
      → Told l a a' → Orderly i x a → Orderly i u a' → t ≡ t'
      → (o : Aside) → Mine c.number o → (b : Buf) → OwnLent c ((stops i x).1.st, (stops i x).1.buf) b
      → At c (one st i (alone share n (begin (aside o)) b (run_of i x q a t)) u q' a' t')
  alone-aside st i (ends y s) {u} l q q' {a = a} {a' = a'} {t = r} {t' = r'} h k k' e o p b m =
      let d = own_like (lawful-rests l) m in
      through-one (λ y. At c (one st i (own_by q a (y, time_after n sharing.apart y.0 s.0 r)) u q' a' r'))
      (begin_idle c s b d.right (aside o)) (rooms (begin (aside o)) k.room b)
      (moves-rests st i l q q' h k k' e (widened d (own-finishes c o p (s.0, b) d.right)))
  alone-aside st true (asks y s g) {u} l q q' {a = a} {a' = a'} {t = r} {t' = r'} h k k' e o p b m =
      let d = own_like (lawful-busy l) m in
      through-one (λ z. At c (one st true (own_by y a (z, time_after n sharing.apart z.0 s.0 r)) u q' a' r'))
      (aside-busy c s b d.right o true refl y g) (rooms (begin (aside o)) k.room b)
      (moves-busy st l q q' h k k' e b (widened d (own-finishes c o p (s.0, b) d.right)))
  alone-aside st false (asks y s g) l q q' h k k' e o p b m = moves-late st l q q' h k k' e o b m

  alone-poll : (st : ℕ) (i : Bool) {y : Answer} {s : St} {u : tree.Out St Answer}
      (l : ApartBy c st i (SameAnswer c.number) true (ends y s) u) (q q' : Access) {a a' : Ans Answer}
      {t t' : List ℕ}
      → Told l a a' → Orderly i (ends y s) a
      → Orderly i u a' → t ≡ t' → (j v : ℕ) → key Out j ≡ key Out c.number → (b : Buf) → OwnLent c s b
      → At c (one st i (alone share n (begin (slotted (PollRead j v))) b (run_of i (ends y s) q a t)) u q' a' t')
  alone-poll st i {s = s} {u = u} l q q' {a = a} {a' = a'} {t = r} {t' = r'} h k k' e j v p b m =
      let d = own_like (lawful-rests l) m in
      through-one (λ y. At c (one st i (own_by q a (y, time_after n sharing.apart y.0 s.0 r)) u q' a' r'))
      (begin_idle c s b d.right (slotted (PollRead j v))) (rooms (begin (slotted (PollRead j v))) k.room b)
      (moves-rests st i l q q' h k k' e (widened d (own-polls c j p v (s.0, b) d.right)))

  alone-own : (st : ℕ) (i : Bool) (x : tree.Out St Answer) {u : tree.Out St Answer}
      (l : ApartBy c st i (SameAnswer c.number) true x u) (q q' : Access) {a a' : Ans Answer} {t t' : List ℕ}
      → Told l a a' → Orderly i x a → Orderly i u a' → t ≡ t'
      → {o : Op} → OfChannel c.number o
      → (b : Buf) → Timely (stops i x).1.under_way_lem o → OwnLent c ((stops i x).1.st, (stops i x).1.buf) b
      → At c (one st i (alone share n (begin o) b (run_of i x q a t)) u q' a' t')
  alone-own st i (ends y s) l q q' h k k' e (polls j v p) b z m = alone-poll st i l q q' h k k' e j v p b m
  alone-own st i (asks y s g) l q q' h k k' e (polls j v p) b z m = absurd z
  alone-own st i (ends y s) l q q' h k k' e (passes o p) b z m = alone-aside st i (ends y s) l q q' h k k' e o p b m
  alone-own st i (asks y s g) l q q' h k k' e (passes o p) b z m = alone-aside st i (asks y s g) l q q' h k k' e o p b m

  alone-begin : (st : ℕ) (i : Bool) {x u : tree.Out St Answer} (l : ApartBy c st i (SameAnswer c.number) true x u)
      (q q' : Access) {a a' : Ans Answer} {t t' : List ℕ} → Told l a a' → Orderly i x a → Orderly i u a' → t ≡ t'
      → (o : Op) (b : Buf) → Alone c (begin o) b (run_of i x q a t)
      → At c (one st i (alone share n (begin o) b (run_of i x q a t)) u q' a' t')
  alone-begin st i {x} {u} l q q' {a} {a'} {t} {t'} h k k' e o b m = by m.2
    where
      by : OwnCall c (begin o) (run_of i x q a t) b → At c
          (one st i (alone share n (begin o) b (run_of i x q a t)) u q' a' t')
      by (own_row1 z) =
          subst (λ y. At c (one st i (own_by (access_of (stops i x).0 q) a y) u q' a' t'))
          (sym (row_one share n (begin o) (stops i x).1 t b (begin-unfit (run_of i x q a t) o b z)))
          (at st i l q q' h k k' e)
      by (own_lent d) = alone-own st i x l q q' h k k' e m.0 b m.1 d

  pub alone-by : (st : ℕ) (i : Bool) {x u : tree.Out St Answer} (l : ApartBy c st i (SameAnswer c.number) true x u)
      (q q' : Access) {a a' : Ans Answer} {t t' : List ℕ} → Told l a a' → Orderly i x a → Orderly i u a' → t ≡ t'
      → (d : Call Config Op) (b : Buf) → Alone c d b (run_of i x q a t)
      → At c (one st i (alone share n d b (run_of i x q a t)) u q' a' t')
  alone-by st i l q q' h k k' e (continue v) b m = alone-go st i l q q' h k k' e v b m
  alone-by st i l q q' h k k' e (begin o) b m = alone-begin st i l q q' h k k' e o b m
  alone-by st i {x} {u} l q q' {a} {a'} {t} {t'} h k k' e (start d) b m = by (start_row d b) refl
    where
      by : (r : ℕ) → start_row d b ≡ r → At c (one st i (alone share n (start d) b (run_of i x q a t)) u q' a' t')
      by zero z = absurd (m z)
      by (suc r) z = subst (λ r. At c (one st i (own_by (access_of (stops i x).0 q) a (
        started calls driver_of (λ s. s) d r (stops i x).1 b,
        time_after n sharing.starting (started calls driver_of (λ s. s) d r (stops i x).1 b).0 (stops i x).1.st t,
      )) u q' a' t')) (sym z) (at st i l q q' h k k' e)
  alone-by st i {x} {u} l q q' {a} {a'} {t} {t'} h k k' e (question d) b m =
      subst (λ b. At c (one st i (alone share n (question d) b (run_of i x q a t)) u q' a' t')) (sym m)
      (at st i l q q' h k k' e)

  -- ---- a continue that is refused

  -- during an operation that is no interrupt
  back-late : (st : ℕ) {p : Access} {s : St} {g : ℕ → St → tree.Out St Answer} {u : tree.Out St Answer}
      (l : ApartBy c st false (SameAnswer c.number) true (asks p s g) u) (q q' : Access) {a a' : Ans Answer}
      {t t' : List ℕ}
      → Told l a a' → Orderly false (asks p s g) a → Orderly false u a' → t ≡ t' → (v : ℕ) (b : Buf)
      → refusing (busy false (awaited p) g) v ≡ true → OwnLent c s b
      → At c (one st false (apart share n (continue v) b (run_of false (asks p s g) q a t)) u q' a' t')
  back-late st (both {q = p} {s = s} {t = t} {k = g} {k' = g'} φ z w w' l f) q q' {a = a} {a' = a'} {t = r} {t' = r'} h
      k k' e v b x m =
      let d = own_like l.left m in
      through-one (λ y. At c (one st false (own_by p a (y, time_after n going y.0 s.0 r)) (asks p t g') q' a' r'))
      (go-wide c s b d.right false p g v x) (rooms (continue v) k.room b)
      (λ x. at st false (both φ z w w' (touch d l) f) p q' h
      (record { spares = λ j. absurd (true≢false (sym j)); few = k.few; room = x.machine }) k' e)
  back-late st (left w p z f) q q' h k k' e v b x m = absurd (true≢false (sym w.0))
  back-late st (right w p z f) q q' h k k' e v b x m = absurd (true≢false (sym w.0))
  back-late st (owns w w' l f f') q q' h k k' e v b x m = absurd (true≢false (sym w.0))

  back_by : (st : ℕ) (i : Bool) (x : tree.Out St Answer) {u : tree.Out St Answer}
      (l : ApartBy c st i (SameAnswer c.number) true x u) (q q' : Access) {a a' : Ans Answer} {t t' : List ℕ}
      → Told l a a' → Orderly i x a → Orderly i u a' → t ≡ t' → (v : ℕ) (b : Buf)
      → refusing (stops i x).1.under_way_lem v ≡ true → OwnLent c ((stops i x).1.st, (stops i x).1.buf) b
      → At c (one st i (apart share n (continue v) b (run_of i x q a t)) u q' a' t')
  back_by st i (ends y s) {u} l q q' {a = a} {a' = a'} {t = r} {t' = r'} h k k' e v b z m =
      let d = own_like (lawful-rests l) m in
      through-one (λ y. At c (one st i (own_by q a (y, time_after n going y.0 s.0 r)) u q' a' r'))
      (go-idle c s b d.right v) (rooms (continue v) k.room b)
      (λ x. at st i (touch-rests l d) q q' (told-rests l d a a' h)
      (record { spares = λ _. at_end tt; few = k.few; room = x.machine }) k' e)
  back_by st true (asks p s g) {u} l q q' {a = a} {a' = a'} {t = r} {t' = r'} h k k' e v b z m =
      let d = own_like (lawful-busy l) m in
      through-one (λ y. At c (one st true (own_by p a (y, time_after n going y.0 s.0 r)) u q' a' r'))
      (go-wide c s b d.right true p g v z) (rooms (continue v) k.room b)
      (λ x. at st true (touch-busy l d) p q' (told-busy l d a a' h)
      (record { spares = λ j. spares-put (s.0, b) (k.spares j); few = k.few; room = x.machine }) k' e)
  back_by st false (asks p s g) l q q' h k k' e v b z m = back-late st l q q' h k k' e v b z m

  pub refused-by : (st : ℕ) (i : Bool) {x u : tree.Out St Answer} (l : ApartBy c st i (SameAnswer c.number) true x u)
      (q q' : Access) {a a' : Ans Answer} {t t' : List ℕ} → Told l a a' → Orderly i x a → Orderly i u a' → t ≡ t'
      → (v : ℕ) (b : Buf) → Refuses c v (run_of i x q a t) b
      → At c (one st i (apart share n (continue v) b (run_of i x q a t)) u q' a' t')
  refused-by st i {x} {u} l q q' {a} {a'} {t} {t'} h k k' e v b (back_row1 z) =
      subst (λ y. At c (one st i (own_by (access_of (stops i x).0 q) a y) u q' a' t'))
      (sym (row_one share n (continue v) (stops i x).1 t b (go-unfit (run_of i x q a t) v b z)))
      (at st i l q q' h k k' e)
  refused-by st i {x} l q q' h k k' e v b (back_lent z m) = back_by st i x l q q' h k k' e v b z m
