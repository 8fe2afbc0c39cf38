-- The book's isochronous endpoints are those that were allocated so, over every list of calls of the code
use Rattle.std.specs.Prelude.{Bool, true, false, cond, ◌&&◌, List, [], ◌∷◌, ◌≡◌, refl, ℕ, zero, suc, ◌+◌, ◌*◌, ◌%◌, eqb, length}
use Rattle.std.proofs.Common.{true≢false, ap, ap₂, subst, sym, ◌∙◌}
use Rattle.regs.specs.declared.Access.{Access}
use Rattle.regs.specs.declared.Dir.{Dir}
use Rattle.regs.specs.declared.Dir.TheVariants.{Out, In}
use Rattle.state.specs.State.{view}
use Rattle.state.specs.Driver.{Driver}
use Rattle.state.specs.declared.Allocator.{Allocator}
use Rattle.alloc.specs.declared.Answer as alloc-answer
use Rattle.alloc.specs.declared.Answer.TheVariants as alloc
use Rattle.alloc.specs.Alloc as allocs
use Rattle.alloc.specs.Alloc.{is_iso, allocate_of, allocate_ep0_of}
use Rattle.descriptor.specs.declared.Endpoint.{Endpoint}
use Rattle.descriptor.specs.declared.Answer as reading-answer
use Rattle.descriptor.specs.declared.Answer.TheVariants as reading
use Rattle.descriptor.specs.Reading.{reading_of, list_of}
use Rattle.descriptor.specs.Trial.{direction_of, trial_of}
use Rattle.script.specs.Tree as tree
use Rattle.script.specs.Tree.{ends, asks, bind_out}
use Rattle.script.specs.Cells.{EpCore, Cell, Val, globals-cell, control-cell, allocator-cell, ep-cell, request-cell}
use Rattle.script.specs.Cells.{paced_cell}
use Rattle.script.specs.Script.{run, Act, complete, reset_ring, set_enabled_lem, fill, fill0, open_oldest, close_oldest}
use Rattle.script.specs.Script.{take_oldest, enqueue, allocate, allocate0, no_wakes, waken, DmaStep, arrive, send}
use Rattle.script.specs.Script.{place, place0}
use Rattle.script.specs.Script.{Burst, switch, bus_reset_lem}
use Rattle.script.specs.Steps.{Kind, plain, giving, kind_of, is, may_act, Steps}
use Rattle.script.specs.StepsRuns.{Holds, end, ask, Keeps}
use Rattle.script.specs.StepsRunsLaws.{holds-run}
use Rattle.script.proofs.StepsCalls.{call-steps, start-up-steps}
use Rattle.script.specs.StepsInterrupt.{placed}
use Rattle.script.proofs.StepsRequests.{operated}
use Rattle.script.specs.Simulates.{Phase}
use Rattle.script.specs.Statics.{is_on, renewed}
use Rattle.script.specs.Answers.{Answer, operation}
use Rattle.script.specs.Driver.{new_endpoint, allocated_as}
use Rattle.script.specs.AllocateAll.{allocate_each, announce, begins_at, announce_after, announce_all, allocate_read}
use Rattle.script.specs.Calls.{Config, Op, interrupt, slotted, other, aside, Slotted, Other, Allocate}
use Rattle.script.specs.Calls.{AllocateAll}
use Rattle.script.specs.Calls.{SetEnabled, PollRead, BeginWrite, PollWrite, PollDataOut, BeginDataIn}
use Rattle.script.specs.Calls.{Start, BusPoll, BusEnable, BusDisable, Microframe, SetStalled, IsStalled, SetPaced}
use Rattle.script.specs.Calls.{Advance, BeginRead}
use Rattle.script.specs.Calls.{BeginSetup, PollSetup, PollDataIn, BeginAccept, PollAccept, BeginReject, BeginDataOut}
use Rattle.script.specs.Calls.{BeginAcceptSetAddress, calls, code, starting, start_row}
use Rattle.script.specs.Machine.{Buf, Event, Call, start, begin, continue, question, Ans, ended, handed, told, blank_a}
use Rattle.script.specs.Machine.{Pending, idle, busy, Machine, over, misfit, stay, lent_to, during_interrupt, halt, begun}
use Rattle.script.specs.Machine.{continued}
use Rattle.script.specs.Machine.{started, fed}
use Rattle.script.specs.Agree.{After, Ways, agrees, from_start}
use Rattle.machine.specs.Suspended.{driver_of, drive, machine_of}
use Rattle.proof_book.specs.Pages.{Kept, Pages, with_kept, with_out, kept_allocator, kept_plain, at, on}
use Rattle.proof_book.specs.Book.{Bk, put_b, act_b, hand_b, row_b, iso_of, receiving, merged_plain}
use Rattle.proof_book.specs.Book.{shaped_plain, some}
use Rattle.proof_book.specs.Book.{waits_on, room_b, given_b, started_b, allocate_b, empty_out}
use Rattle.proof_book.specs.Book.{fresh_pages, book_ops, book}
use Rattle.proof_book.specs.FrameLaws.{at-elim}
use Rattle.proof_book.specs.Coupling.{Coupling}
use Rattle.proof_book.proofs.StartUpLaws.{fresh_kept}
use Rattle.proof_book.proofs.AgreesLaws.{agree}
use Rattle.proof_book.specs.AnswersLaws.{tells-same, fed-kept}
use Rattle.proof_book.proofs.SlotsKeptLaws.{lent_is}
use Rattle.proof_book.specs.ReadRoomLaws.{off}
use Rattle.proof_book.specs.Allocated.{Sorts, sorted_as, all_sorted, op_sorts, sorts_after}
use Rattle.proof_book.specs.FrontPage.{CallRecord, book_step, SortsEach}
use Rattle.proof_book.specs.FrontPage as page

-- numbers count modulo 16
abbrev Even : Sorts → Type 0
Even f = (d : Dir) (e x : ℕ) → e % 16 ≡ x % 16 → f d e ≡ f d x

-- a book with these sorts
abbrev Is : Sorts → Pages → Type 0
Is f t = (d : Dir) (e : ℕ) → iso_of t d e ≡ f d e

abbrev Lent : Sorts → Bk → Type 0
Lent f s = Is f s.0

either : {f : Sorts} (u : Bool) (x y : Pages) → Is f x → Is f y → Is f (cond u x y)
either true x y p q = p
either false x y p q = q

either-bk : {f : Sorts} (u : Bool) (x y : Bk) → Is f x.0 → Is f y.0 → Is f (cond u x y).0
either-bk true x y p q = p
either-bk false x y p q = q

-- ---- each operation but an allocation

module _ (f : Sorts) (even : Even f) where
  record-iso : (d : Dir) (e : ℕ) (p : EpCore) (t : Pages) → Is f t → is_on p.iso ≡ f d e
      → Is f (with_kept t (kept_plain t.kept d e p))
  record-iso Out e p t h q Out x =
      at-elim (λ (r : EpCore). is_on r.iso ≡ f Out x) e x p (t.kept.plain Out) (λ s. q ∙ even Out e x (sym s))
      (λ _. h Out x)
  record-iso Out e p t h q In x = h In x
  record-iso In e p t h q Out x = h Out x
  record-iso In e p t h q In x =
      at-elim (λ (r : EpCore). is_on r.iso ≡ f In x) e x p (t.kept.plain In) (λ s. q ∙ even In e x (sym s))
      (λ _. h In x)

  puts : (c : Cell) (v : Val c) (s : Bk) → Lent f s → Lent f (put_b c v s)
  puts globals-cell v s h = h
  puts control-cell v s h = h
  puts allocator-cell v s h = h
  puts (ep-cell d e) v s h = record-iso d e (merged_plain (s.0.kept.plain d e) v) s.0 h (h d e)
  puts (request-cell d e) v s h = h
  puts (paced_cell e) v s h = h

  started-iso : (maximum : ℕ) (a : alloc-answer.Answer) (t : Pages) → Is f t → Is f (started_b maximum a t)
  started-iso maximum (alloc.Refused n) t h = h
  started-iso maximum (alloc.Given e base slots) t h = h

  acts : (k : Kind) → is k giving ≡ false → (q : Act) → may_act k q ≡ true → (s : Bk) → Lent f s → Lent f (act_b q s)
  acts k g (complete e) m s h = h
  acts k g (reset_ring Out e) m s h = either (iso_of s.0 Out e) s.0
      (with_out s.0 e (empty_out (s.0.outs e))) h h
  acts k g (reset_ring In e) m s h = h
  acts k g (set_enabled_lem Out e on) m s h = either (iso_of s.0 Out e) s.0 _ h h
  acts k g (set_enabled_lem In e on) m s h = h
  acts k g (fill e bytes) m s h = h
  acts k g (fill0 bytes) m s h = h
  acts k g (open_oldest e) m s h = either (some (waits_on s.0 Out e)) _ s.0 h h
  acts k g (close_oldest e) m s h = either (s.0.outs e).opened _ s.0 h h
  acts k g (take_oldest e) m s h = either (some (waits_on s.0 Out e)) _ s.0 h h
  acts k g (enqueue e bytes) m s h = either-bk (room_b s.0 e (length bytes)) _ s h h
  acts k g (allocate d kind address maximum interval) m s h = absurd (true≢false (sym m ∙ g))
  acts k g (allocate0 maximum) m s h = started-iso maximum (allocate_ep0_of s.0.kept.allocator maximum).answer _ h
  acts k g no_wakes m s h = h
  acts k g (waken codes) m s h = h

  hands : (q : DmaStep) (s : Bk) → Lent f s → Lent f (hand_b q s).1
  hands (arrive e n) s h = either (receiving s.0 e) _ s.0 h h
  hands (send e) s h = h
  hands (place Out e) s h = h
  hands (place In e) s h = h
  hands place0 s h = h

  rows : (g : Burst) (n : ℕ) (s : Bk) → Lent f s → Lent f (row_b g n s).1
  rows (switch e on) zero s h = h
  rows (switch e on) (suc zero) s h = h
  rows (switch e on) (suc (suc zero)) s h = h
  rows (switch e on) (suc (suc (suc n))) s h = either (iso_of s.0 Out e && eqb n 15) _ s.0
      (record-iso Out e (renewed (s.0.kept.plain Out e)) s.0 h (h Out e)) h
  rows bus_reset_lem zero s h = h
  rows bus_reset_lem (suc zero) s h = h
  rows bus_reset_lem (suc (suc zero)) s h = h
  rows bus_reset_lem (suc (suc (suc n))) s h = h

  keeps : (k : Kind) → is k giving ≡ false → Keeps book_ops (Lent f) k
  keeps k g = record {
    put = λ c v _ s h. puts c v s h;
    act = acts k g;
    hand = λ q _ s h. hands q s h;
    row = λ g _ n s h. rows g n s h;
  }

-- ---- an allocation

even-on : (d : Dir) (e : ℕ) (v : Bool) (f : Sorts) → Even f → Even (on d e v f)
even-on Out e v f h Out x y p = ap₂ (λ (n : ℕ) (w : Bool). cond (eqb n (e % 16)) v w) p (h Out x y p)
even-on Out e v f h In x y p = h In x y p
even-on In e v f h Out x y p = h Out x y p
even-on In e v f h In x y p = ap₂ (λ (n : ℕ) (w : Bool). cond (eqb n (e % 16)) v w) p (h In x y p)

even-as : (d : Dir) (kind : ℕ) (a : alloc-answer.Answer) (f : Sorts) → Even f → Even (sorted_as d kind a f)
even-as d kind (alloc.Refused n) f h = h
even-as d kind (alloc.Given e base slots) f h = even-on d e (is_iso kind) f h

even-all : (es : List Endpoint) (a : Allocator) (f : Sorts) → Even f → Even (all_sorted a es f)
even-all [] a f h = h
even-all (e ∷ es) a f h =
    let d = direction_of e.address in
    let z = allocate_of a e.kind e.address e.maximum d in
    even-all es z.after (sorted_as d e.kind z.answer f) (even-as d e.kind z.answer f h)

flag-says : (i : Bool) → is_on (allocs.flag i) ≡ i
unfolding is_on
flag-says true = refl
flag-says false = refl

-- the record that is given, and all others
here-or-there : (e kind : ℕ) (p : EpCore) (g : ℕ → EpCore) (f : ℕ → Bool) → is_on p.iso ≡ is_iso kind
    → ((x : ℕ) → is_on (g x).iso ≡ f x) → (x : ℕ) → is_on (at e p g x).iso ≡ at e (is_iso kind) f x
here-or-there e kind p g f q h x = by (eqb (x % 16) (e % 16))
  where
    by : (u : Bool) → is_on (cond u p (g x)).iso ≡ cond u (is_iso kind) (f x)
    by true = q
    by false = h x

given_is : (d : Dir) (kind maximum interval : ℕ) (a : alloc-answer.Answer) (f : Sorts) (t : Pages) → Is f t
    → Is (sorted_as d kind a f) (given_b d kind maximum interval a t)
given_is d kind maximum interval (alloc.Refused n) f t h = h
given_is Out kind maximum interval (alloc.Given e base slots) f t h = by
  where
    by : Is (on Out e (is_iso kind) f) (given_b Out kind maximum interval (alloc.Given e base slots) t)
    by Out x = here-or-there e kind (shaped_plain (t.kept.plain Out e) kind maximum base) (t.kept.plain Out) (f Out)
        (flag-says (is_iso kind)) (λ x. h Out x) x
    by In x = h In x
given_is In kind maximum interval (alloc.Given e base slots) f t h = by
  where
    by : Is (on In e (is_iso kind) f) (given_b In kind maximum interval (alloc.Given e base slots) t)
    by Out x = h Out x
    by In x = here-or-there e kind (shaped_plain (t.kept.plain In e) kind maximum base) (t.kept.plain In) (f In)
        (flag-says (is_iso kind)) (λ x. h In x) x

given-after : (d : Dir) (kind maximum interval : ℕ) (a : alloc-answer.Answer) (t : Pages)
    → (given_b d kind maximum interval a t).kept.allocator ≡ t.kept.allocator
given-after d kind maximum interval (alloc.Refused n) t = refl
given-after Out kind maximum interval (alloc.Given e base slots) t = refl
given-after In kind maximum interval (alloc.Given e base slots) t = refl

alloc-is : (d : Dir) (kind address maximum interval : ℕ) (f : Sorts) (t : Pages) → Is f t
    → Is (sorted_as d kind (allocate_of t.kept.allocator kind address maximum d).answer f)
    (allocate_b d kind address maximum interval t)
alloc-is d kind address maximum interval f t h =
    given_is d kind maximum interval (allocate_of t.kept.allocator kind address maximum d).answer f _ h

-- ---- the call that allocates: f before, g from its first access on

data Begins (f g : Sorts) : tree.Out Bk Answer → Type 0 where
  at_end : {a : Answer} {s : Bk} → Lent f s → Begins f g (ends a s)
  at_ask : {q : Access} {s : Bk} {k : ℕ → Bk → tree.Out Bk Answer} → Lent g s
      → ((v : ℕ) (u : Bk) → Lent g u → Holds (Lent g) (k v u)) → Begins f g (asks q s k)

from-ask : {f g : Sorts} {q : Access} {s : Bk} {k : ℕ → Bk → tree.Out Bk Answer} → Holds (Lent g) (asks q s k)
    → Begins f g (asks q s k)
from-ask (ask h x) = at_ask h x

begins-cond : {f g : Sorts} (u : Bool) {o p : tree.Out Bk Answer} → Begins f g o → Begins f g p
    → Begins f g (cond u o p)
begins-cond true x y = x
begins-cond false x y = y

-- their scripts from there on do what any call may
of-new : (d : Dir) (kind maximum e : ℕ) → Steps plain (new_endpoint {i = false} d kind maximum e)
of-new d kind maximum e = ((tt, tt), λ _. (((placed plain d e, tt), tt), λ _. tt))

of-announce : (d : Dir) (e : ℕ) → Steps plain (announce {i = false} d e)
of-announce d e = (λ _. tt, λ _. ((tt, tt), λ _. (((placed plain d e, tt), tt), λ _. tt)))

of-begins-at : (d : Dir) (x left e : ℕ) → Steps plain (begins_at {i = false} d x left e)
unfolding begins_at
of-begins-at d x zero e = tt
of-begins-at d x (suc left) e = (λ _. tt, λ _. (λ _. tt, λ _. (tt, of-begins-at d x left (suc e))))

of-after : (left total : ℕ) (d : Dir) (e : ℕ) → Steps plain (announce_after {i = false} left total d e)
unfolding announce_after
of-after zero total d e = tt
of-after (suc left) total d e = (
  (λ _. tt, λ _. (λ _. tt, λ _. tt)),
  λ x. (
    of-begins-at Out x 15 1,
    λ o. (
      (of-begins-at In x 15 1, λ n. (of-announce In n, λ _. of-after left total In n)),
      (of-announce Out o, λ _. of-after left total Out o),
    ),
  ),
)

of-announce-all : (es : List Endpoint) → Steps plain (announce_all {i = false} es)
of-announce-all [] = tt
of-announce-all (e ∷ es) = (
  of-announce (direction_of e.address) (e.address % 128),
  λ _. of-after (length es) (suc (length es)) (direction_of e.address) (e.address % 128),
)

-- one endpoint
allocates-one : (d : Dir) (kind address maximum interval : ℕ) (f : Sorts) → Even f → (s : Bk) → Lent f s
    → Begins f (sorted_as d kind (allocate_of s.0.kept.allocator kind address maximum d).answer f)
    (run book_ops (code (other (Allocate d kind address maximum interval))) s)
allocates-one d kind address maximum interval f even s h = begins-cond (eqb s.0.kept.globals.stage 1)
    (by (allocate_of s.0.kept.allocator kind address maximum d).answer
    (act_b (allocate d kind address maximum interval) s)
    (alloc-is d kind address maximum interval f s.0 h)) (at_end h)
  where
    by : (z : alloc-answer.Answer) (t : Bk) → Lent (sorted_as d kind z f) t
        → Begins f (sorted_as d kind z f) (run {i = false} book_ops (allocated_as d kind maximum z) t)
    by (alloc.Refused n) t k = at_end k
    by (alloc.Given e base slots) t k =
        from-ask (holds-run (keeps (on d e (is_iso kind) f) (even-on d e (is_iso kind) f even) plain refl)
        (operation (new_endpoint {i = false} d kind maximum e)) (operated (of-new d kind maximum e)) t k)

-- all of a list: nothing is handed out in between
data EndsIn (P : Bk → Type 0) : tree.Out Bk (Unit {0}) → Type 0 where
  ended_in : {a : Unit {0}} {s : Bk} → P s → EndsIn P (ends a s)

each-ends : (es : List Endpoint) (f : Sorts) (s : Bk) (a : Allocator) → s.0.kept.allocator ≡ a → Lent f s
    → EndsIn (λ t. Lent (all_sorted a es f) t) (run {i = false} book_ops (allocate_each es) s)
unfolding allocate_each
each-ends [] f s a p h = ended_in h
each-ends (e ∷ es) f s a p h =
    let d = direction_of e.address in
    let z = allocate_of a e.kind e.address e.maximum d in
    each-ends es (sorted_as d e.kind z.answer f) (act_b (allocate d e.kind e.address e.maximum
    e.interval) s) z.after
    (given-after d e.kind e.maximum e.interval (allocate_of s.0.kept.allocator e.kind e.address
    e.maximum d).answer
    (with_kept s.0 (kept_allocator s.0.kept (allocate_of s.0.kept.allocator e.kind e.address
    e.maximum d).after))
    ∙ ap (λ (a : Allocator). (allocate_of a e.kind e.address e.maximum d).after) p)
    (subst (λ (a : Allocator). Is (sorted_as d e.kind (allocate_of a e.kind e.address e.maximum d).answer f)
    (allocate_b d e.kind e.address e.maximum e.interval s.0)) p
    (alloc-is d e.kind e.address e.maximum e.interval f s.0 h))

ends-then : {P : Bk → Type 0} {f g : Sorts} {o : tree.Out Bk (Unit {0})} {k : Unit {0} → Bk → tree.Out Bk Answer}
    → EndsIn P o
    → ((a : Unit {0}) (t : Bk) → P t → Begins f g (k a t)) → Begins f g (bind_out o k)
ends-then (ended_in p) h = h _ _ p

allocates-all : (bytes : List ℕ) (f : Sorts) → Even f → (s : Bk) → Lent f s
    → Begins f (all_sorted s.0.kept.allocator (list_of bytes) f) (run book_ops (code (other (AllocateAll bytes))) s)
allocates-all bytes f even s h = begins-cond (eqb s.0.kept.globals.stage 1) (by (reading_of bytes).answer)
    (at_end h)
  where
    a : Allocator
    a = s.0.kept.allocator

    announces : (es : List Endpoint) (t : Bk) → Lent (all_sorted a es f) t
        → Begins f (all_sorted a es f) (run {i = false} book_ops (operation (announce_all es)) t)
    announces [] t k = at_end k
    announces (e ∷ es) t k =
        from-ask (holds-run (keeps (all_sorted a (e ∷ es) f) (even-all (e ∷ es) a f even) plain refl)
        (operation (announce_all {i = false} (e ∷ es))) (operated (of-announce-all (e ∷ es))) t k)

    by : (z : reading-answer.Answer) → Begins f (all_sorted a (list_of bytes) f)
        (run {i = false} book_ops (allocate_read bytes z) s)
    by (reading.Refused n) = at_end h
    by reading.Listed = begins-cond (eqb (trial_of a (list_of bytes)).refusal 0)
        (ends-then (each-ends (list_of bytes) f s a refl h) (λ _ t k. announces (list_of bytes) t k)) (at_end h)

-- ---- one call; x: the driver's answer, of which the book is told

abbrev WaySorted : Sorts → Pending Answer Pages → Type 0
WaySorted f idle = Unit {0}
WaySorted f (busy i q k) = (v : ℕ) (u : Bk) → Lent f u → Holds (Lent f) (k v u)

-- the machine after it, with the sorts f
record Sorted (f : Sorts) (n : Machine Answer Pages) : Type 0 where
  state : Is f n.st
  under_way_lem : WaySorted f n.under_way_lem
  even : Even f

module _ (x : Ans Answer) where
  abbrev halts : Bool → tree.Out Bk Answer → Ans Answer × Machine Answer Pages
  halts i o = halt calls book.driver (fed book x) i o

  fed-is : {f : Sorts} (t : Pages) → Is f t → Is f (fed book x t)
  fed-is t h d e = ap (λ (k : Kept). is_on (k.plain d e).iso) (fed-kept x t) ∙ h d e

  halted : {f : Sorts} → Even f → (i : Bool) (o : tree.Out Bk Answer) → Holds (Lent f) o → Sorted f (halts i o).1
  halted even i (ends a s) (end h) = record { state = h; under_way_lem = tt; even = even }
  halted even i (asks q s k) (ask h y) = record { state = fed-is s.0 h; under_way_lem = y; even = even }

  begins-halted : {f g : Sorts} → Even f → Even g → (c : Ans Answer → Sorts) → ((q : Access) → c (handed q) ≡ g)
      → ((z : Answer) → c (ended z) ≡ f)
      → (o : tree.Out Bk Answer) → Begins f g o → let y = halts false o in Sorted (c y.0) y.1
  begins-halted ef eg c p r (ends a s) (at_end h) = subst (λ (z : Sorts). Sorted z (halts false (ends a s)).1)
      (sym (r a))
      (record { state = h; under_way_lem = tt; even = ef })
  begins-halted ef eg c p r (asks q s k) (at_ask h w) = subst (λ (z : Sorts). Sorted z (halts false (asks q s k)).1)
      (sym (p q))
      (record { state = fed-is s.0 h; under_way_lem = w; even = eg })

  module _ (f : Sorts) (a : Allocator) (t : Pages) (b : Buf)
      (k : Sorted f (record { under_way_lem = idle; st = t; buf = b })) where
    abbrev Goes : Op → Type 0
    Goes o = let y = halts (calls.irq o) (run book_ops (code o) (t, b)) in Sorted
        (sorts_after (begin o) y.0 t.kept.allocator f) y.1

    plainly : (o : Op) → is (kind_of o) giving ≡ false → ((q : Access) → op_sorts o t.kept.allocator f ≡ f) → Goes o
    plainly o g same = by (halts (calls.irq o) (run book_ops (code o) (t, b))).0 refl
      where
        after_it : Machine Answer Pages
        after_it = (halts (calls.irq o) (run book_ops (code o) (t, b))).1

        z : Sorted f after_it
        z = halted k.even (calls.irq o) (run book_ops (code o) (t, b))
            (holds-run (keeps f k.even (kind_of o) g) (code o) (call-steps o) (t, b) k.state)

        by : (y : Ans Answer) → (halts (calls.irq o) (run book_ops (code o) (t, b))).0 ≡ y → Goes o
        by (ended c) p = subst (λ (y : Ans Answer). Sorted (sorts_after (begin o) y t.kept.allocator f) after_it)
            (sym p) z
        by (handed q) p = subst (λ (y : Ans Answer). Sorted (sorts_after (begin o) y t.kept.allocator f) after_it)
            (sym p)
            (subst (λ (g : Sorts). Sorted g after_it) (sym (same q)) z)
        by (told n) p = subst (λ (y : Ans Answer). Sorted (sorts_after (begin o) y t.kept.allocator f) after_it)
            (sym p) z

    of-slotted : (o : Slotted) → Goes (slotted o)
    of-slotted (SetEnabled d e on) = plainly (slotted (SetEnabled d e on)) refl (λ _. refl)
    of-slotted (PollRead e n) = plainly (slotted (PollRead e n)) refl (λ _. refl)
    of-slotted (BeginWrite e bs) = plainly (slotted (BeginWrite e bs)) refl (λ _. refl)
    of-slotted (PollWrite e bs) = plainly (slotted (PollWrite e bs)) refl (λ _. refl)
    of-slotted (PollDataOut n) = plainly (slotted (PollDataOut n)) refl (λ _. refl)
    of-slotted (BeginDataIn bs first last) = plainly (slotted (BeginDataIn bs first last)) refl (λ _. refl)

    of_other : (o : Other) → Goes (other o)
    of_other (Allocate d kind address maximum interval) =
        let o = other (Allocate d kind address maximum interval) in
        begins-halted k.even (even-as d kind (allocate_of t.kept.allocator kind address maximum d).answer f
        k.even) (λ y. sorts_after (begin o) y t.kept.allocator f) (λ _. refl) (λ _. refl)
        (run book_ops (code o) (t, b)) (allocates-one d kind address maximum interval f k.even (t, b) k.state)
    of_other (AllocateAll bytes) =
        let o = other (AllocateAll bytes) in
        begins-halted k.even (even-all (list_of bytes) t.kept.allocator f k.even)
        (λ y. sorts_after (begin o) y t.kept.allocator f) (λ _. refl) (λ _. refl)
        (run book_ops (code o) (t, b)) (allocates-all bytes f k.even (t, b) k.state)
    of_other (Start maximum) = plainly (other (Start maximum)) refl (λ _. refl)
    of_other BusPoll = plainly (other BusPoll) refl (λ _. refl)
    of_other BusEnable = plainly (other BusEnable) refl (λ _. refl)
    of_other BusDisable = plainly (other BusDisable) refl (λ _. refl)
    of_other Microframe = plainly (other Microframe) refl (λ _. refl)
    of_other (SetStalled d e on) = plainly (other (SetStalled d e on)) refl (λ _. refl)
    of_other (IsStalled d e) = plainly (other (IsStalled d e)) refl (λ _. refl)
    of_other (SetPaced e on) = plainly (other (SetPaced e on)) refl (λ _. refl)
    of_other (Advance e) = plainly (other (Advance e)) refl (λ _. refl)
    of_other (BeginRead e n) = plainly (other (BeginRead e n)) refl (λ _. refl)
    of_other BeginSetup = plainly (other BeginSetup) refl (λ _. refl)
    of_other PollSetup = plainly (other PollSetup) refl (λ _. refl)
    of_other PollDataIn = plainly (other PollDataIn) refl (λ _. refl)
    of_other BeginAccept = plainly (other BeginAccept) refl (λ _. refl)
    of_other PollAccept = plainly (other PollAccept) refl (λ _. refl)
    of_other BeginReject = plainly (other BeginReject) refl (λ _. refl)
    of_other (BeginDataOut n first) = plainly (other (BeginDataOut n first)) refl (λ _. refl)
    of_other (BeginAcceptSetAddress c) = plainly (other (BeginAcceptSetAddress c)) refl (λ _. refl)

    begin_idle : (o : Op) → Goes o
    begin_idle interrupt = plainly interrupt refl (λ _. refl)
    begin_idle (slotted o) = of-slotted o
    begin_idle (other o) = of_other o
    begin_idle (aside o) = plainly (aside o) refl (λ _. refl)

  -- a call that falls in an interrupt, or is refused
  beside-sorts : (f : Sorts) (o : Op) (n : Machine Answer Pages) (b : Buf) → Sorted f n → is (kind_of o) giving ≡ false
      → let y = during_interrupt calls book.driver (lent_to calls book.driver n b)
      (run book_ops (code o) (n.st, b)) in
      Sorted (sorts_after (begin o) y.0 n.st.kept.allocator f) y.1
  beside-sorts f o n b k g = by (run book_ops (code o) (n.st, b))
      (holds-run (keeps f k.even (kind_of o) g) (code o) (call-steps o) (n.st, b) k.state)
    where
      by : (z : tree.Out Bk Answer) → Holds (Lent f) z → let y = during_interrupt calls book.driver
          (lent_to calls book.driver n b) z in
          Sorted (sorts_after (begin o) y.0 n.st.kept.allocator f) y.1
      by (ends c s) (end h) = record { state = h; under_way_lem = k.under_way_lem; even = k.even }
      by (asks q s c) h = record { state = k.state; under_way_lem = k.under_way_lem; even = k.even }

  either_way : (c : Call Config Op) (f : Sorts) (a : Allocator) (u : Bool) (y z : Ans Answer × Machine Answer Pages)
      → Sorted (sorts_after c y.0 a f) y.1 → Sorted (sorts_after c z.0 a f) z.1
      → Sorted (sorts_after c (cond u y z).0 a f) (cond u y z).1
  either_way c f a true y z p q = p
  either_way c f a false y z p q = q

  lent-sorted : {f : Sorts} (n : Machine Answer Pages) (b : Buf) → Sorted f n
      → Sorted f (lent_to calls book.driver n b)
  lent-sorted n b k = record { state = k.state; under_way_lem = k.under_way_lem; even = k.even }

  begun-sorts : (f : Sorts) (o : Op) (n : Machine Answer Pages) (w : Pending Answer Pages) → n.under_way_lem ≡ w
      → (b : Buf)
      → Sorted f n
      → let y = begun calls book.driver (fed book x) o n w b in Sorted
      (sorts_after (begin o) y.0 n.st.kept.allocator f) y.1
  begun-sorts f o n idle p b k = begin_idle f n.st.kept.allocator n.st b
      (record { state = k.state; under_way_lem = tt; even = k.even }) o
  begun-sorts f interrupt n (busy true q r) p b k = lent-sorted n b k
  begun-sorts f (slotted o) n (busy true q r) p b k = lent-sorted n b k
  begun-sorts f (other o) n (busy true q r) p b k = lent-sorted n b k
  begun-sorts f (aside o) n (busy true q r) p b k = beside-sorts f (aside o) n b k refl
  begun-sorts f o n (busy false q r) p b k = lent-sorted n b k

  continued-sorts : (f : Sorts) (v : ℕ) (n : Machine Answer Pages) (w : Pending Answer Pages) → WaySorted f w
      → (b : Buf)
      → Sorted f n
      → Sorted f (continued calls book.driver (fed book x) v n w b).1
  continued-sorts f v n idle h b k = lent-sorted n b k
  continued-sorts f v n (busy i q r) h b k = by (over calls q v)
    where
      by : (u : Bool) → Sorted f (cond u (stay calls book.driver 16 (lent_to calls book.driver n b))
          (halts i (r v (n.st, b)))).1
      by true = lent-sorted n b k
      by false = halted k.even i (r v (n.st, b)) (h v (n.st, b) k.state)

  started-sorts : (g : Config) (n : Machine Answer Pages) (b : Buf)
      → let y = started calls book.driver (fed book x) g zero n b in Sorted (λ d e. false) y.1
  started-sorts g n b = halted (λ d e x h. refl) false (run book_ops (starting g) (fresh_pages g, b))
      (holds-run (keeps (λ d e. false) (λ d e x h. refl) plain refl) (starting g) (start-up-steps plain g)
      (fresh_pages g, b) fresh-is)
    where
      fresh-is : Is (λ d e. false) (fresh_pages g)
      fresh-is d e = off

  call-sorts : (c : Call Config Op) (f : Sorts) (n : Machine Answer Pages) (b : Buf) → Sorted f n
      → let y = book_step x c n b in Sorted (sorts_after c y.0 n.st.kept.allocator f) y.1
  call-sorts (start g) f n b k = by (start_row g b)
    where
      by : (r : ℕ) → let y = started calls book.driver (fed book x) g r n b in Sorted
          (sorts_after (start g) y.0 n.st.kept.allocator f) y.1
      by zero = started-sorts g n b
      by (suc r) = k
  call-sorts (begin o) f n b k = either_way (begin o) f n.st.kept.allocator
      (cond (calls.slots o) (misfit calls book.driver n.st b) false)
      (stay calls book.driver 1 n) (begun calls book.driver (fed book x) o n n.under_way_lem b) k
      (begun-sorts f o n n.under_way_lem refl b k)
  call-sorts (continue v) f n b k = either_way (continue v) f n.st.kept.allocator
      (misfit calls book.driver n.st b)
      (stay calls book.driver 1 n) (continued calls book.driver (fed book x) v n n.under_way_lem b) k
      (continued-sorts f v n n.under_way_lem k.under_way_lem b k)
  call-sorts (question q) f n b k = lent-sorted n b k

-- an answer but for its address tells the same
sorts_same : (c : Call Config Op) (l : Allocator) (f : Sorts) (a b : Ans Answer) → blank_a a ≡ blank_a b
    → sorts_after c a l f ≡ sorts_after c b l f
sorts_same (start c) l f = tells-same (λ z. sorts_after (start c) z l f) (λ _ _. refl, λ _ _. refl, λ _. refl)
sorts_same (begin o) l f = tells-same (λ z. sorts_after (begin o) z l f) (λ _ _. refl, λ _ _. refl, λ _. refl)
sorts_same (continue v) l f = λ _ _ _. refl
sorts_same (question q) l f = λ _ _ _. refl

-- ---- every list of calls

made-sorts : (m : CallRecord) (n : Machine Answer Pages) (f : Sorts) → blank_a m.answer
    ≡ blank_a (page.book_after m n).0
    → Sorted f n
    → Sorted (sorts_after m.event.call m.answer n.st.kept.allocator f) (page.book_after m n).1
made-sorts m n f same k = subst (λ (g : Sorts). Sorted g (page.book_after m n).1)
    (sorts_same m.event.call n.st.kept.allocator f (page.book_after m n).0 m.answer (sym same))
    (call-sorts m.answer m.event.call f n m.event.lent k)

each : (ms : List CallRecord) (xs : List ℕ) (a : Buf) {φ : Phase} (n : Machine Answer Pages) (f : Sorts)
    → Ways driver_of book agree calls φ (machine_of xs a).under_way_lem n.under_way_lem → Coupling φ a (view xs) n.st
    → Sorted f n → page.Calls xs a n ms → SortsEach n f ms
each [] xs a n f w R t p = tt
each (m ∷ ms) xs a n f w R t p =
    let c = m.event.call in
    let b = m.event.lent in
    let k : After driver_of book agree calls (m.answer, machine_of m.bytes m.slots) (page.book_after m n)
    = subst (λ (x : Ans Answer × Machine Answer Driver). After driver_of book agree calls x (book_step x.0 c n b))
    (sym p.0)
    (agrees driver_of book agree calls fresh_kept c b (machine_of xs a) n w R
    (lent_is (machine_of xs a) n R b c p.1)) in
    let z = made-sorts m n f k.same t in
    (z.state, each ms m.bytes m.slots (page.book_after m n).1 _ k.ways k.rest z p.2)

-- any bytes, a start-up that rows 1 and 2 do not stop, and then any calls of demand 3's premise
pub sorts-each : (c : Config) (b : Buf) → start_row c b ≡ zero
    → (xs : List ℕ) (a : Buf) (n : Machine Answer Pages) (first : CallRecord)
    → first.event ≡ record { call = start c; lent = b } → (ms : List CallRecord) → page.Calls xs a n (first ∷ ms)
    → (f : Sorts) → SortsEach n f (first ∷ ms)
sorts-each c b row xs a n first is ms p f = (
  z.state,
  each ms first.bytes first.slots (page.book_after first n).1 g begun-as.ways begun-as.rest z
      p.2,
)
  where
    begun-as : After driver_of book agree calls (first.answer, machine_of first.bytes first.slots)
        (page.book_after first n)
    begun-as = subst (λ (x : Ans Answer × Machine Answer Driver). After driver_of book agree calls x
        (book_step x.0 first.event.call n first.event.lent))
        (sym p.0) (subst (λ (v : Event Config Op). let x = drive v.call (machine_of xs a) v.lent in
        After driver_of book agree calls x (book_step x.0 v.call n v.lent)) (sym is)
        (rw row (from_start driver_of book agree calls fresh_kept c b row [] (machine_of xs a) n tt).0))

    g : Sorts
    g = sorts_after first.event.call first.answer n.st.kept.allocator f

    began : (x : Ans Answer) → let y = book_step x (start c) n b in Sorted
        (sorts_after (start c) y.0 n.st.kept.allocator f) y.1
    began x = subst (λ (r : ℕ). let y = started calls book.driver (fed book x) c r n b in
        Sorted (sorts_after (start c) y.0 n.st.kept.allocator f) y.1) (sym row) (started-sorts x c n b)

    z : Sorted g (page.book_after first n).1
    z = subst (λ (h : Sorts). Sorted h (page.book_after first n).1)
        (sorts_same first.event.call n.st.kept.allocator f (page.book_after first n).0 first.answer
        (sym begun-as.same))
        (subst (λ (v : Event Config Op). let y = book_step first.answer v.call n v.lent in
        Sorted (sorts_after v.call y.0 n.st.kept.allocator f) y.1) (sym is) (began first.answer))
