-- Request One over every list of calls: where a continue of an interrupt leaves one packet more, its stamp is the
-- microframe index of the number that this interrupt's first continue brought (`Stamping`). By the book: an interrupt
-- keeps that index, and an arrival joins those waiting with it
use Rattle.std.specs.Prelude.{Bool, true, false, cond, List, [], ◌∷◌, ◌++◌, ◌≡◌, refl, ℕ, zero, suc, ◌+◌, ◌*◌, ◌%◌, eqb, length, get_or}
use Rattle.std.proofs.Common.{inl, inr, ⊎_elim, ap, subst, sym, ◌∙◌, arith, eqb-true}
use Rattle.bits.specs.Tables.{tab}
use Rattle.regs.specs.declared.Dir.TheVariants.{Out}
use Rattle.frame.specs.Usb20.{index_of}
use Rattle.state.specs.declared.Globals.{Globals}
use Rattle.state.specs.Driver.{Driver, key, stamp_key, no_ep, ep_on, stamp_on}
use Rattle.script.specs.Tree as tree
use Rattle.script.specs.Tree.{ends, asks}
use Rattle.script.specs.Script.{run}
use Rattle.script.specs.Simulates.{Phase}
use Rattle.script.specs.Answers.{Answer, Refused, resultless}
use Rattle.script.specs.Calls.{Config, Op, interrupt, slotted, other, aside, Aside, aside_code, code, calls, start_row}
use Rattle.script.specs.Calls.{interrupt_code}
use Rattle.script.specs.Handler.{on_interrupt, stamped_interrupt}
use Rattle.script.specs.Machine.{Buf, Call, start, begin, continue, question, Event, Ans, Awaits, awaited}
use Rattle.script.specs.Machine.{Pending, idle, busy, Machine, fed, blank_a, over, misfit, stay, lent_to, during_interrupt}
use Rattle.script.specs.Machine.{halt, begun}
use Rattle.script.specs.Machine.{started}
use Rattle.script.specs.Agree.{Ways, both_idle, both_busy, After, agrees, from_start}
use Rattle.script_ops.specs.Rings.{St}
use Rattle.script_ops.specs.Concrete.{concrete}
use Rattle.state.specs.State.{view}
use Rattle.machine.specs.Suspended.{driver_of, drive, machine_of}
use Rattle.proof_book.specs.Pages.{stamps_of, Pages}
use Rattle.proof_book.specs.Pages as book-of
use Rattle.proof_book.specs.Stamps.{stamped}
use Rattle.proof_book.specs.Book.{Bk, slot_told, book_ops, book}
use Rattle.proof_book.specs.Coupling.{Coupling}
use Rattle.proof_book.proofs.StartUpLaws.{fresh_kept}
use Rattle.proof_book.proofs.AgreesLaws.{agree}
use Rattle.proof_book.specs.FrontPage.{CallRecord, CallStep, book_step, Calls, ring_stamps}
use Rattle.proof_book.specs.MachineRuns.{Premise}
use Rattle.proof_book.specs.AnswersLaws.{tells-same, fed-elim, fed-kept}
use Rattle.proof_book.proofs.SlotsKeptLaws.{lent_is}
use Rattle.proof_book.specs.KeepingLaws.{Throughout, at_end, at_ask, At, keeps-run}
use Rattle.proof_book.specs.EnteredLaws.{of_interrupt, of-aside}
use Rattle.proof_book.specs.Stamping.{First, not_yet_lem, unasked, brought, first_of, noticed, OneMore, Stamping}
use Rattle.proof_book.specs.Stamping.{StampsEach, StampsMade}
use Rattle.proof_book.proofs.StampingScriptsLaws.{Even, StampsKept, Stays, Joins, Either, Grows, ends_so, asks_so}
use Rattle.proof_book.proofs.StampingScriptsLaws.{grows_from, grows-bind, grows-run}

abbrev Any : Answer → Type 0
Any a = Unit {0}

-- what is left of an interrupt, by what its first continue brought
abbrev Serves : First → Pending Answer Pages → Driver → Type 0
Serves f idle d = Unit {0}
Serves f (busy false a k) d = Unit {0}
Serves unasked (busy true a k) d = ⊥
Serves not_yet_lem (busy true a k) d = (v : ℕ) (u : Bk) → Even u.0 → Grows (index_of v) Any u (k v u)
Serves (brought w) (busy true a k) d = (d.globals.entered ≡ index_of w)
    × ((v : ℕ) (u : Bk) → StampsKept (index_of w) u → Grows (index_of w) Any u (k v u))

-- as it begins
abbrev Begins : Ans Answer → First → Driver → tree.Out Bk Answer → Type 0
Begins a f d o = let y = halt calls book.driver (fed book a) true o in Serves (noticed (begin interrupt) y.0 f)
    y.1.under_way_lem d

begins_so : (a : Ans Answer) (f : First) (s : Bk) (d : Driver) → Begins a f d (run book_ops interrupt_code s)
begins_so a f s d = by (eqb s.0.kept.globals.stage 2)
  where
    by : (z : Bool) → Begins a f d (cond z (run book_ops (resultless {i = true} stamped_interrupt) s)
        (ends (Refused 4) s))
    by true = λ v u z. grows-bind (grows-bind {Q = λ (n : ℕ). Unit {0}}
        (grows_from (λ e. refl) (grows-run (index_of v) on_interrupt (of_interrupt (index_of v)) _
        (record { entered = refl; even = z })))
        (λ a t k p. ends_so (λ e. refl) k tt))
        (λ n t k p. ends_so (λ e. refl) k tt)
    by false = tt

-- ---- what the book is told leaves both

fed-joins : (x : ℕ) (s t : Pages) → Even s → Joins x s t → (a : Ans Answer) → Joins x s (fed book a t)
fed-joins x s t z j a = fed-elim (Joins x s) a t j (λ e y _. λ f. by e y f (eqb (f % 16) (e % 16)) refl) (λ e y _. j)
  where
    by : (e y f : ℕ) (u : Bool) → eqb (f % 16) (e % 16) ≡ u
        → Either x s f (stamps_of (cond u (slot_told (t.outs e) y) (t.outs f)).waiting)
    by e y f true h =
        let g = z e f (sym (eqb-true (f % 16) (e % 16) h)) in
        ⊎_elim (λ p. inl (p ∙ g)) (λ p. inr (p ∙ ap (λ (l : List ℕ). l ++ (x ∷ [])) g)) (j e)
    by e y f false h = j f

-- ---- the driver's stamps are the book's

stamps-mod : (d : Driver) (e f : ℕ) → e % 16 ≡ f % 16 → ring_stamps d e ≡ ring_stamps d f
unfolding ep_on key stamp_on stamp_key
stamps-mod d e f h = ap (λ j. stamped (get_or d.eps j no_ep) (tab 16 (λ i. get_or d.stamps (j * 16 + i % 16) 0))) h

even-of : {φ : Phase} {b : Buf} {d : Driver} {t : Pages} → Coupling φ b d t → Even t
even-of {d = d} R e f h = sym (R.outs e).stamps ∙ stamps-mod d e f h ∙ (R.outs f).stamps

kept_of_lem : {φ : Phase} {b : Buf} {d : Driver} {t : Pages} {x : ℕ} → Coupling φ b d t → d.globals.entered ≡ x
    → (c : Buf) → StampsKept x (t, c)
kept_of_lem R h c = record { entered = sym (ap (λ (g : Globals). g.entered) R.same.globals) ∙ h; even = even-of R }

-- one more, where it joined
one_more : {φ ψ : Phase} {b c : Buf} {d d' : Driver} {t t' : Pages} (w : ℕ)
    → Coupling φ b d t → Coupling ψ c d' t' → Joins (index_of w) t t' → OneMore (brought w) d d'
one_more {d = d} {d' = d'} {t = t} {t' = t'} w R R' j e h =
    ⊎_elim
    (λ p. absurd (let z : length (ring_stamps d' e) ≡ length (ring_stamps d e)
    = ap length ((R'.outs e).stamps ∙ p ∙ sym (R.outs e).stamps) in
    omega (arith, z, h)))
    (λ p. (
      index_of w,
      refl,
      (R'.outs e).stamps ∙ p ∙ ap (λ (l : List ℕ). l ++ (index_of w ∷ []))
          (sym (R.outs e).stamps),
    ))
    (j e)

none_more : {φ ψ : Phase} {b c : Buf} {d d' : Driver} {t t' : Pages} (f : First) → Coupling φ b d t → Coupling ψ c d' t'
    → Stays t t' → OneMore f d d'
none_more {d = d} {d' = d'} f R R' s e h =
    absurd (let z : length (ring_stamps d' e) ≡ length (ring_stamps d e)
    = ap length ((R'.outs e).stamps ∙ s e ∙ sym (R.outs e).stamps) in
    omega (arith, z, h))

-- ---- one call

-- an answer but for its address tells the same
noticed-same : (c : Call Config Op) (f : First) (a b : Ans Answer) → blank_a a ≡ blank_a b → noticed c a f ≡ noticed c b f
noticed-same (start c) f = tells-same (λ z. noticed (start c) z f) (λ _ _. refl, λ _ _. refl, λ _. refl)
noticed-same (begin o) f = tells-same (λ z. noticed (begin o) z f) (λ _ _. refl, λ _ _. refl, λ _. refl)
noticed-same (continue v) f = tells-same (λ z. noticed (continue v) z f) (λ _ _. refl, λ _ _. refl, λ _. refl)
noticed-same (question q) f = λ _ _ _. refl

plainly : (a : Ans Answer) (f : First) (o : tree.Out Bk Answer) (d : Driver)
    → Serves f (halt calls book.driver (fed book a) false o).1.under_way_lem d
plainly a f (ends x s) d = tt
plainly a f (asks q s k) d = tt

-- where nothing is done to it
serves_on : (f : First) (w : Pending Answer Pages) (d d' : Driver) → d'.globals.entered ≡ d.globals.entered
    → Serves f w d → Serves f w d'
serves_on f idle d d' e h = tt
serves_on f (busy false a k) d d' e h = tt
serves_on unasked (busy true a k) d d' e h = h
serves_on not_yet_lem (busy true a k) d d' e h = h
serves_on (brought v) (busy true a k) d d' e h = (e ∙ h.0, h.1)

-- open, close and queue during an interrupt leave the driver's index
aside-entered : (o : Aside) (w : Pending Answer Driver) (d : Driver) (b : Buf)
    → (during_interrupt calls driver_of (record { under_way_lem = w; st = d; buf = b })
    (run concrete (aside_code o) (d, b))).1.st.globals.entered ≡ d.globals.entered
aside-entered o w d b = by (keeps-run d.globals.entered (aside_code o) (of-aside d.globals.entered o) (d, b)
    refl)
  where
    by : {P : Answer → Type 0} {z : tree.Out St Answer} → Throughout (At d.globals.entered) P z
        → (during_interrupt calls driver_of (record { under_way_lem = w; st = d; buf = b }) z).1.st.globals.entered
        ≡ d.globals.entered
    by (at_end k p) = k
    by (at_ask k g) = refl

-- a call that falls in an interrupt
module _ (a : Awaits) (k : ℕ → St → tree.Out St Answer) (d : Driver) (c b : Buf) where
  abbrev serving : Machine Answer Driver
  serving = record { under_way_lem = busy true a k; st = d; buf = c }

  begin-entered : (o : Op) → (drive (begin o) serving b).1.st.globals.entered ≡ d.globals.entered
  begin-entered o = by (cond (calls.slots o) (misfit calls driver_of d b) false) o
    where
      by : (g : Bool) (o : Op) → (cond g (stay calls driver_of 1 serving)
          (begun calls driver_of (λ s. s) o serving (busy true a k) b)).1.st.globals.entered ≡ d.globals.entered
      by true o = refl
      by false interrupt = refl
      by false (slotted o) = refl
      by false (other o) = refl
      by false (aside o) = aside-entered o (busy true a k) d b

module _ (x : Ans Answer) (f : First) (a : Awaits) (k : ℕ → Bk → tree.Out Bk Answer) (t : Pages) (c b : Buf)
    (d : Driver) (h : Serves f (busy true a k) d) where
  abbrev serving_b : Machine Answer Pages
  serving_b = record { under_way_lem = busy true a k; st = t; buf = c }

  begin-serves : (o : Op) → let y = book_step x (begin o) serving_b b in Serves (noticed (begin o) y.0 f)
      y.1.under_way_lem d
  begin-serves o = by (cond (calls.slots o) (misfit calls book.driver t b) false) (calls.aside o)
      (run book_ops (code o) (t, b))
    where
      by : (g g' : Bool) (z : tree.Out Bk Answer)
          → let y = cond g (stay calls book.driver 1 serving_b)
          (cond (cond true g' false) (during_interrupt calls book.driver (lent_to calls book.driver serving_b b) z)
          (stay calls book.driver 3 (lent_to calls book.driver serving_b b))) in
          Serves (noticed (begin o) y.0 f) y.1.under_way_lem d
      by true g' z = h
      by false false z = h
      by false true (ends y s) = h
      by false true (asks q s j) = h

-- a continue of an interrupt
record Went (f : First) (n : ℕ) (t : Pages) (d d' : Driver) (y : Ans Answer × Machine Answer Pages) : Type 0 where
  serves : Serves (noticed (continue n) y.0 f) y.1.under_way_lem d'
  more : OneMore (noticed (continue n) y.0 f) d d'

module _ {φ ψ : Phase} {c c' : Buf} {d d' : Driver} {t : Pages} (R : Coupling φ c d t) (b : Buf) (x : Ans Answer)
    (n : ℕ) (f : First) where
  went : (w : ℕ) → first_of n f ≡ brought w → {o : tree.Out Bk Answer} → Grows (index_of w) Any (t, b) o
      → let y = halt calls book.driver (fed book x) true o in Coupling ψ c' d' y.1.st → Went f n t d d' y
  went w e (ends_so s k p) R' = record { serves = tt; more = none_more f R R' s }
  went w e (asks_so {q = q} {t = u} {k = g} j k h) R' =
      let i : d'.globals.entered ≡ index_of w
      = ap (λ (g : Globals). g.entered) R'.same.globals
      ∙ ap (λ (k : book-of.Kept). k.globals.entered) (fed-kept x u.0) ∙ k in
      record {
        serves = subst (λ y. Serves y (busy true (awaited q) g) d') (sym e) (i, h);
        more = subst (λ y. OneMore y d d') (sym e) (one_more w R R' (fed-joins (index_of w) t u.0 (even-of R) j x));
      }

  goes_on_lem : (a : Awaits) (k : ℕ → Bk → tree.Out Bk Answer) → Serves f (busy true a k) d
      → let y = halt calls book.driver (fed book x) true (k n (t, b)) in Coupling ψ c' d' y.1.st
      → Went f n t d d' y
  goes_on_lem a k h R' = by f refl h
    where
      by : (g : First) → g ≡ f → Serves g (busy true a k) d
          → Went f n t d d' (halt calls book.driver (fed book x) true (k n (t, b)))
      by unasked e h = absurd h
      by not_yet_lem e h = went n (ap (first_of n) (sym e)) (h n (t, b) (even-of R)) R'
      by (brought w) e h = went w (ap (first_of n) (sym e)) (h.1 n (t, b) (kept_of_lem R h.0 b)) R'

  -- refused
  stayed : (w : Pending Answer Pages) (z : Buf) (r : ℕ) → Serves f w d → Coupling ψ c' d' t
      → Went f n t d d' (stay calls book.driver r (record { under_way_lem = w; st = t; buf = z }))
  stayed w z r h R' = record {
    serves = serves_on f w d d' (ap (λ (g : Globals). g.entered) (R'.same.globals ∙ sym R.same.globals)) h;
    more = none_more f R R' (λ e. refl);
  }

  go_serves : (a : Awaits) (k : ℕ → Bk → tree.Out Bk Answer) → Serves f (busy true a k) d
      → (z : Buf) → let y = book_step x (continue n) (record { under_way_lem = busy true a k; st = t; buf = z }) b in
      Coupling ψ c' d' y.1.st → Went f n t d d' y
  go_serves a k h z = by (misfit calls book.driver t b) (over calls a n)
    where
      m : Machine Answer Pages
      m = record { under_way_lem = busy true a k; st = t; buf = z }

      by : (g g' : Bool) → let y = cond g (stay calls book.driver 1 m)
          (cond g' (stay calls book.driver 16 (lent_to calls book.driver m b))
          (halt calls book.driver (fed book x) true (k n (t, b)))) in
          Coupling ψ c' d' y.1.st → Went f n t d d' y
      by true g' R' = stayed (busy true a k) z 1 h R'
      by false true R' = stayed (busy true a k) b 16 h R'
      by false false R' = goes_on_lem a k h R'

-- with nothing under way, and in an operation that is no interrupt
idle-plain : (x : Ans Answer) (f : First) (m : Machine Answer Pages) (d : Driver) → m.under_way_lem ≡ idle
    → (g : Bool) (o : tree.Out Bk Answer)
    → Serves f (cond g (stay calls book.driver 1 m) (halt calls book.driver (fed book x) false o)).1.under_way_lem d
idle-plain x f m d e true o = subst (λ w. Serves f w d) (sym e) tt
idle-plain x f m d e false o = plainly x f o d

module _ (x : Ans Answer) (f : First) (t : Pages) (d : Driver) where
  begin_idle : (o : Op) (c b : Buf) → let y = book_step x (begin o) (record { under_way_lem = idle; st = t; buf = c }) b in
      Serves (noticed (begin o) y.0 f) y.1.under_way_lem d
  begin_idle interrupt c b = begins_so x f (t, b) d
  begin_idle (slotted o) c b = idle-plain x _ (record { under_way_lem = idle; st = t; buf = c }) d refl
      (cond (calls.slots (slotted o)) (misfit calls book.driver t b) false) (run book_ops (code (slotted o)) (t, b))
  begin_idle (other o) c b = idle-plain x _ (record { under_way_lem = idle; st = t; buf = c }) d refl
      (cond (calls.slots (other o)) (misfit calls book.driver t b) false) (run book_ops (code (other o)) (t, b))
  begin_idle (aside o) c b = idle-plain x _ (record { under_way_lem = idle; st = t; buf = c }) d refl
      (cond (calls.slots (aside o)) (misfit calls book.driver t b) false) (run book_ops (code (aside o)) (t, b))

  begin-late : (o : Op) (a : Awaits) (k : ℕ → Bk → tree.Out Bk Answer) (c b : Buf) (g : First)
      → Serves g (book_step x (begin o) (record { under_way_lem = busy false a k; st = t; buf = c }) b).1.under_way_lem d
  begin-late o a k c b g = by (cond (calls.slots o) (misfit calls book.driver t b) false)
    where
      m : Machine Answer Pages
      m = record { under_way_lem = busy false a k; st = t; buf = c }

      by : (z : Bool) → Serves g (cond z (stay calls book.driver 1 m)
          (stay calls book.driver 3 (lent_to calls book.driver m b))).1.under_way_lem d
      by true = tt
      by false = tt

  go-idle : (v : ℕ) (c b : Buf) (g : First) → Serves g
      (book_step x (continue v) (record { under_way_lem = idle; st = t; buf = c }) b).1.under_way_lem d
  go-idle v c b g = by (misfit calls book.driver t b)
    where
      m : Machine Answer Pages
      m = record { under_way_lem = idle; st = t; buf = c }

      by : (z : Bool) → Serves g (cond z (stay calls book.driver 1 m)
          (stay calls book.driver 15 (lent_to calls book.driver m b))).1.under_way_lem d
      by true = tt
      by false = tt

  go_plain : (v : ℕ) (a : Awaits) (k : ℕ → Bk → tree.Out Bk Answer) (c b : Buf) (g : First)
      → Serves g (book_step x (continue v) (record { under_way_lem = busy false a k; st = t; buf = c }) b).1.under_way_lem d
  go_plain v a k c b g = by (misfit calls book.driver t b) (over calls a v)
    where
      m : Machine Answer Pages
      m = record { under_way_lem = busy false a k; st = t; buf = c }

      by : (z z' : Bool) → Serves g (cond z (stay calls book.driver 1 m)
          (cond z' (stay calls book.driver 16 (lent_to calls book.driver m b))
          (halt calls book.driver (fed book x) false (k v (t, b))))).1.under_way_lem d
      by true z' = tt
      by false true = tt
      by false false = plainly x g (k v (t, b)) d

  start-serves : (c : Config) (b : Buf) (m : Machine Answer Driver) (n : Machine Answer Pages)
      → Serves f n.under_way_lem m.st → (r : ℕ)
      → let y = started calls book.driver (fed book x) c r n b in
      Serves (noticed (start c) y.0 f) y.1.under_way_lem (started calls driver_of (λ s. s) c r m b).1.st
  start-serves c b m n h zero = tt
  start-serves c b m n h (suc r) = h

record StampingStep (c : Call Config Op) (w : Pending Answer Driver) (d : Driver) (f : First)
    (x : Ans Answer × Machine Answer Driver)
    (y : Ans Answer × Machine Answer Pages) : Type 0 where
  serves : Serves f y.1.under_way_lem x.1.st
  stamps : Stamping c w f d x.1.st

-- told by the book's answer
step : (c : Call Config Op) (b : Buf) {φ : Phase} (w : Pending Answer Driver) (d : Driver) (a : Buf)
    (w' : Pending Answer Pages) (t : Pages) (a' : Buf)
    (f : First) → Ways driver_of book agree calls φ w w' → Coupling φ a d t → Serves f w' d
    → let x = drive c (record { under_way_lem = w; st = d; buf = a }) b in
    let y = book_step x.0 c (record { under_way_lem = w'; st = t; buf = a' }) b in
    After driver_of book agree calls x y → StampingStep c w d (noticed c y.0 f) x y
step (start c) b w d a w' t a' f v R h k =
    record {
      serves = start-serves (drive (start c) (record { under_way_lem = w; st = d; buf = a }) b).0 f t d c b
          (record { under_way_lem = w; st = d; buf = a })
          (record { under_way_lem = w'; st = t; buf = a' }) h (start_row c b);
      stamps = tt;
    }
step (begin o) b idle d a idle t a' f both_idle R h k =
    let x = drive (begin o) (record { under_way_lem = idle; st = d; buf = a }) b in
    record { serves = begin_idle x.0 f t x.1.st o a' b; stamps = tt }
step (begin o) b (busy false q j) d a (busy false q' j') t a' f (both_busy i z p g) R h k =
    let x = drive (begin o) (record { under_way_lem = busy false q j; st = d; buf = a }) b in
    record { serves = begin-late x.0 f t x.1.st o q j' a' b _; stamps = tt }
step (begin o) b (busy true q j) d a (busy true q' j') t a' f (both_busy i z p g) R h k =
    let x = drive (begin o) (record { under_way_lem = busy true q j; st = d; buf = a }) b in
    record {
      serves = begin-serves x.0 f q j' t a' b x.1.st
          (serves_on f (busy true q j') d x.1.st (begin-entered q j d a b o) h) o;
      stamps = tt;
    }
step (continue v) b idle d a idle t a' f both_idle R h k =
    let x = drive (continue v) (record { under_way_lem = idle; st = d; buf = a }) b in
    record { serves = go-idle x.0 f t x.1.st v a' b _; stamps = tt }
step (continue v) b (busy false q j) d a (busy false q' j') t a' f (both_busy i z p g) R h k =
    let x = drive (continue v) (record { under_way_lem = busy false q j; st = d; buf = a }) b in
    record { serves = go_plain x.0 f t x.1.st v q j' a' b _; stamps = tt }
step (continue v) b (busy true q j) d a (busy true q' j') t a' f (both_busy i z p g) R h k =
    let x = drive (continue v) (record { under_way_lem = busy true q j; st = d; buf = a }) b in
    let u = go_serves R b x.0 v f q j' h a' k.rest in
    record { serves = u.serves; stamps = u.more }
step (question q) b w d a w' t a' f v R h k = record { serves = h; stamps = tt }
step (begin o) b {φ = φ} idle d a (busy _ q' j') t a' f v R h k = elim v [ ]
step (begin o) b {φ = φ} (busy false q j) d a idle t a' f v R h k = elim v [ ]
step (begin o) b {φ = φ} (busy false q j) d a (busy true q' j') t a' f v R h k = elim v [ ]
step (begin o) b {φ = φ} (busy true q j) d a idle t a' f v R h k = elim v [ ]
step (begin o) b {φ = φ} (busy true q j) d a (busy false q' j') t a' f v R h k = elim v [ ]
step (continue v) b {φ = φ} idle d a (busy _ q' j') t a' f v' R h k = elim v' [ ]
step (continue v) b {φ = φ} (busy false q j) d a idle t a' f v' R h k = elim v' [ ]
step (continue v) b {φ = φ} (busy false q j) d a (busy true q' j') t a' f v' R h k = elim v' [ ]
step (continue v) b {φ = φ} (busy true q j) d a idle t a' f v' R h k = elim v' [ ]
step (continue v) b {φ = φ} (busy true q j) d a (busy false q' j') t a' f v' R h k = elim v' [ ]

-- ---- every list of calls

one : (c : Call Config Op) (b : Buf) {φ : Phase} (m : Machine Answer Driver) (n : Machine Answer Pages) (f : First)
    → Ways driver_of book agree calls φ m.under_way_lem n.under_way_lem → Coupling φ m.buf m.st n.st
    → Serves f n.under_way_lem m.st
    → let x = drive c m b in
    let y = book_step x.0 c n b in
    After driver_of book agree calls x y → StampingStep c m.under_way_lem m.st (noticed c x.0 f) x y
one c b m n f w R h k =
    let x = drive c m b in
    let y = book_step x.0 c n b in
    subst (λ g. StampingStep c m.under_way_lem m.st g x y) (noticed-same c f y.0 x.0 (sym k.same))
    (step c b m.under_way_lem m.st m.buf n.under_way_lem n.st n.buf f w R h k)

each : (es : List (Event Config Op)) {φ : Phase} (m : Machine Answer Driver) (n : Machine Answer Pages) (f : First)
    → Ways driver_of book agree calls φ m.under_way_lem n.under_way_lem → Coupling φ m.buf m.st n.st
    → Serves f n.under_way_lem m.st
    → Premise es m n → StampsEach es m f
each [] m n f w R h l = tt
each (e ∷ es) m n f w R h l =
    let a = agrees driver_of book agree calls fresh_kept e.call e.lent m n w R
    (lent_is m n R e.lent e.call l.0) in
    let z = one e.call e.lent m n f w R h a in
    (z.stamps, each es _ _ _ a.ways a.rest z.serves l.1)

-- the first call is a start-up that rows 1 and 2 do not stop, on whatever was before; every later call is lent the slot
-- buffer as the last one left it, but for the chip's stores
pub stamps-each : (c : Config) (b : Buf) → start_row c b ≡ zero
    → (es : List (Event Config Op)) (m : Machine Answer Driver) (n : Machine Answer Pages)
    → let x = started calls driver_of (λ s. s) c zero m b in
    let y = started calls book.driver (fed book x.0) c zero n b in
    Premise es x.1 y.1 → StampsEach es x.1 not_yet_lem
stamps-each c b row es m n p =
    let a = (from_start driver_of book agree calls fresh_kept c b row [] m n tt).0 in
    each es _ _ not_yet_lem a.ways a.rest tt p

-- ---- of the code

made_each : (ms : List CallRecord) {φ : Phase} (xs : List ℕ) (a : Buf) (n : Machine Answer Pages) (f : First)
    → Ways driver_of book agree calls φ (machine_of xs a).under_way_lem n.under_way_lem → Coupling φ a (view xs) n.st
    → Serves f n.under_way_lem (view xs)
    → Calls xs a n ms → StampsMade xs a f ms
made_each [] xs a n f w R h r = tt
made_each (m ∷ ms) xs a n f w R h r =
    let c = m.event.call in
    let b = m.event.lent in
    let k = agrees driver_of book agree calls fresh_kept c b (machine_of xs a) n w R
    (lent_is (machine_of xs a) n R b c r.1) in
    let z = subst (λ (x : Ans Answer × Machine Answer Driver). After driver_of book agree calls x (book_step x.0 c n b)
    × StampingStep c (machine_of xs a).under_way_lem (view xs) (noticed c x.0 f) x (book_step x.0 c n b)) (sym r.0)
    (k, one c b (machine_of xs a) n f w R h k) in
    (z.1.stamps, made_each ms m.bytes m.slots _ _ z.0.ways z.0.rest z.1.serves r.2)

-- any bytes, a start-up that rows 1 and 2 do not stop, and then any calls whose contracts say what they are steps of
pub code-stamps : (c : Config) (b : Buf) → start_row c b ≡ zero
    → (xs : List ℕ) (a : Buf) (n : Machine Answer Pages) (first : CallRecord)
    → first.event ≡ record { call = start c; lent = b } → CallStep xs a first → (ms : List CallRecord)
    → let y = started calls book.driver (fed book first.answer) c zero n b in
    Calls first.bytes first.slots y.1 ms → StampsMade first.bytes first.slots not_yet_lem ms
code-stamps c b row xs a n first e did ms r =
    let q : (first.answer, machine_of first.bytes first.slots)
    ≡ started calls driver_of (λ s. s) c zero (machine_of xs a) b
    = subst (λ (v : Event Config Op). (first.answer, machine_of first.bytes first.slots)
    ≡ drive v.call (machine_of xs a) v.lent) e did
    ∙ ap (λ n. started calls driver_of (λ s. s) c n (machine_of xs a) b) row in
    let k : After driver_of book agree calls (first.answer, machine_of first.bytes first.slots)
    (started calls book.driver (fed book first.answer) c zero n b)
    = subst (λ z. After driver_of book agree calls z (started calls book.driver (fed book z.0) c zero n b)) (sym q)
    (from_start driver_of book agree calls fresh_kept c b row [] (machine_of xs a) n tt).0 in
    made_each ms first.bytes first.slots _ not_yet_lem k.ways k.rest tt r
