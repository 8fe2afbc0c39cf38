-- Scripts that leave every page where they end with a refusal or a poll's "not yet", and the scripts of all calls: they
-- are such
use Rattle.std.specs.Prelude.{Bool, true, false, cond, ◌||◌, List, ◌≡◌, refl, ℕ, eqb}
use Rattle.std.proofs.Common.{true≢false, ap, subst, sym, ◌∙◌}
use Rattle.regs.specs.declared.Access.{Access}
use Rattle.regs.specs.declared.Dir.{Dir}
use Rattle.alloc.specs.declared.Answer as alloc-answer
use Rattle.alloc.specs.declared.Answer.TheVariants as alloc
use Rattle.alloc.specs.Alloc.{allocate_of, allocate_ep0_of}
use Rattle.descriptor.specs.declared.Answer as reading-answer
use Rattle.descriptor.specs.declared.Answer.TheVariants as reading
use Rattle.script.specs.Tree as tree
use Rattle.script.specs.Tree.{ends, asks, bind_out}
use Rattle.script.specs.Cells.{Cell, Val, globals-cell, control-cell, allocator-cell, ep-cell, request-cell, paced_cell}
use Rattle.script.specs.Script.{Script, run, ret, bind, test, get_then, put_then, is_then, look_then, fetch_then}
use Rattle.script.specs.Script.{act_then, Test, Look, Fetch, Act, complete, reset_ring, set_enabled_lem, fill, fill0}
use Rattle.script.specs.Script.{open_oldest, close_oldest, take_oldest, enqueue, allocate, allocate0, no_wakes, waken}
use Rattle.script.specs.Answers.{Answer, Refused, End, NotYet, Done, Shown}
use Rattle.script.specs.Driver.{alloc_endpoint, allocated_as, started_as}
use Rattle.script.specs.AllocateAll.{allocate_read}
use Rattle.script.specs.Calls.{Config, Op, interrupt, slotted, other, aside, Slotted, SetEnabled, PollRead, BeginWrite}
use Rattle.script.specs.Calls.{PollWrite, PollDataOut, BeginDataIn, Other, Allocate, AllocateAll, Start, BusPoll}
use Rattle.script.specs.Calls.{BusEnable, BusDisable, Microframe, SetStalled, IsStalled, SetPaced, Advance, BeginRead}
use Rattle.script.specs.Calls.{BeginSetup, PollSetup, PollDataIn, BeginAccept, PollAccept, BeginReject, BeginDataOut}
use Rattle.script.specs.Calls.{BeginAcceptSetAddress, Aside, Open, Close, Queue, code, slotted_code, other_code}
use Rattle.script.specs.Calls.{aside_code, interrupt_code, starting}
use Rattle.script.specs.Steps.{is, plain, turning, receiving}
use Rattle.script.specs.Steps as kinds
use Rattle.proof_book.specs.ActsLaws.{act_kind}
use Rattle.proof_book.specs.Pages.{Pages}
use Rattle.proof_book.specs.Book.{Bk, put_b, act_b, iso_out, given_b, started_b, book_ops}

-- an answer by its sort: a refusal, an end, "not yet", a poll's bytes, a packet shown
abbrev pub on_answer : {A : Type 0} → (ℕ → A) → (ℕ → List ℕ → A) → A → (List ℕ → A) → (List ℕ → ℕ → A) → Answer → A
on_answer r e y d s (Refused n) = r n
on_answer r e y d s (End n w) = e n w
on_answer r e y d s NotYet = y
on_answer r e y d s (Done bytes) = d bytes
on_answer r e y d s (Shown bytes n) = s bytes n

-- a refusal, or "not yet"
abbrev pub is_no : Answer → Bool
is_no a = on_answer (λ _. true) (λ _ _. false) true (λ _. false) (λ _ _. false) a

-- all pages are as they were
pub record Same (s t : Pages) : Type 0 where
  pub outs : (e : ℕ) → t.outs e ≡ s.outs e
  pub ins : (e : ℕ) → t.ins e ≡ s.ins e

same : {s : Pages} → Same s s
same = record { outs = λ e. refl; ins = λ e. refl }

pub same_then : {s t u : Pages} → Same s t → Same t u → Same s u
same_then h k = record { outs = λ e. k.outs e ∙ h.outs e; ins = λ e. k.ins e ∙ h.ins e }

-- ---- an outcome: where it ends with such a result, the pages are as the call found them

pub data Tells {A : Type 0} (no : A → Bool) : Bk → tree.Out Bk A → Type 0 where
  t_end : {a : A} {s t : Bk} → (no a ≡ true → Same s.0 t.0) → Tells no s (ends a t)
  t_ask : {q : Access} {s t : Bk} {k : ℕ → Bk → tree.Out Bk A} → ((v : ℕ) (u : Bk) → Tells no u (k v u))
      → Tells no s (asks q t k)

abbrev any : {A : Type 0} → A → Bool
any a = true

tells-from : {A : Type 0} {no : A → Bool} {s t : Bk} {o : tree.Out Bk A} → Same s.0 t.0 → Tells no t o
    → Tells no s o
tells-from h (t_end k) = t_end (λ z. same_then h (k z))
tells-from h (t_ask k) = t_ask k

tells-bind : {A B : Type 0} {no : B → Bool} {s : Bk} {o : tree.Out Bk A} {f : A → Bk → tree.Out Bk B}
    → Tells any s o → ((a : A) (t : Bk) → Tells no t (f a t)) → Tells no s (bind_out o f)
tells-bind (t_end h) g = tells-from (h refl) (g _ _)
tells-bind (t_ask k) g = t_ask (λ v u. tells-bind (k v u) g)

never-bind : {A B : Type 0} {no : B → Bool} (o : tree.Out Bk A) {f : A → Bk → tree.Out Bk B}
    → ((a : A) (s t : Bk) → Tells no s (f a t)) → (s : Bk) → Tells no s (bind_out o f)
never-bind (ends a t) g s = g a s t
never-bind (asks q t k) g s = t_ask (λ v u. never-bind (k v u) g u)

tells-test : {A : Type 0} {no : A → Bool} {s : Bk} (u : Bool) {x y : tree.Out Bk A} → Tells no s x → Tells no s y
    → Tells no s (cond u x y)
tells-test true h g = h
tells-test false h g = g

-- ---- scripts

-- it ends with neither
pub data Never : (i : Bool) → Script i Answer → Type 1 where
  n_ret : {i : Bool} {a : Answer} → is_no a ≡ false → Never i (ret a)
  n_bind : {i : Bool} {A : Type 0} {p : Script i A} {f : A → Script i Answer} → ((a : A) → Never i (f a))
      → Never i (bind p f)
  n_test : {i : Bool} {b : Bool} {p q : Script i Answer} → Never i p → Never i q → Never i (test b p q)

-- a change that leaves the pages
abbrev pub leaves_pages : Act → Bool
leaves_pages q = let k = act_kind q in is k turning || (is k receiving || (is k kinds.starting || is k plain))

-- it hands out nothing, and its changes are such
pub data HandsOutNothing {i : Bool} (ok : Act → Bool) : (A : Type 0) → Script i A → Type 1 where
  c_ret : {A : Type 0} {a : A} → HandsOutNothing ok A (ret a)
  c_bind : {A B : Type 0} {p : Script i B} {f : B → Script i A} → HandsOutNothing ok B p
      → ((b : B) → HandsOutNothing ok A (f b)) → HandsOutNothing ok A (bind p f)
  c_test : {A : Type 0} {b : Bool} {p q : Script i A} → HandsOutNothing ok A p → HandsOutNothing ok A q
      → HandsOutNothing ok A (test b p q)
  c_get : {A : Type 0} {c : Cell} {k : Val c → Script i A} → ((v : Val c) → HandsOutNothing ok A (k v))
      → HandsOutNothing ok A (get_then c k)
  c_put : {A : Type 0} {c : Cell} {v : Val c} {p : Script i A} → HandsOutNothing ok A p
      → HandsOutNothing ok A (put_then c v p)
  c_is : {A : Type 0} {q : Test} {k : Bool → Script i A} → ((b : Bool) → HandsOutNothing ok A (k b))
      → HandsOutNothing ok A (is_then q k)
  c_look : {A : Type 0} {q : Look} {k : ℕ → Script i A} → ((n : ℕ) → HandsOutNothing ok A (k n))
      → HandsOutNothing ok A (look_then q k)
  c_fetch : {A : Type 0} {q : Fetch} {k : List ℕ → Script i A} → ((l : List ℕ) → HandsOutNothing ok A (k l))
      → HandsOutNothing ok A (fetch_then q k)
  c_act : {A : Type 0} {q : Act} {p : Script i A} → ok q ≡ true → HandsOutNothing ok A p
      → HandsOutNothing ok A (act_then q p)

-- it leaves the pages too
abbrev NoPageChange : {i : Bool} (A : Type 0) → Script i A → Type 1
NoPageChange A p = HandsOutNothing leaves_pages A p

-- it ends with neither from its first change of a page on
pub data RefusesBeforeChange : (i : Bool) → Script i Answer → Type 1 where
  f_never : {i : Bool} {p : Script i Answer} → Never i p → RefusesBeforeChange i p
  f_ret : {i : Bool} {a : Answer} → RefusesBeforeChange i (ret a)
  f_bind : {i : Bool} {A : Type 0} {p : Script i A} {f : A → Script i Answer} → NoPageChange A p
      → ((a : A) → RefusesBeforeChange i (f a)) → RefusesBeforeChange i (bind p f)
  f_test : {i : Bool} {b : Bool} {p q : Script i Answer} → RefusesBeforeChange i p → RefusesBeforeChange i q
      → RefusesBeforeChange i (test b p q)
  f_allocate : (d : Dir) (kind address maximum interval : ℕ)
      → RefusesBeforeChange false (alloc_endpoint d kind address maximum interval)

pub ruleset silently = (c_ret, c_bind, c_test, c_get, c_put, c_is, c_look, c_fetch, c_act)

ruleset fairly = (f_never, f_ret, f_bind, f_test, n_ret, n_bind, n_test, silently)

-- ---- their runs

pub put_same : (c : Cell) (v : Val c) (s : Bk) → Same s.0 (put_b c v s).0
put_same globals-cell v s = record { outs = λ e. refl; ins = λ e. refl }
put_same control-cell v s = record { outs = λ e. refl; ins = λ e. refl }
put_same allocator-cell v s = same
put_same (ep-cell d e) v s = record { outs = λ e. refl; ins = λ e. refl }
put_same (request-cell d e) v s = record { outs = λ e. refl; ins = λ e. refl }
put_same (paced_cell e) v s = record { outs = λ e. refl; ins = λ e. refl }

either : (u : Bool) {t x y : Pages} → Same t x → Same t y → Same t (cond u x y)
either true h g = h
either false h g = g

started_same : (maximum : ℕ) (a : alloc-answer.Answer) {t : Pages} (x : Pages) → Same t x
    → Same t (started_b maximum a x)
started_same maximum (alloc.Refused n) x h = h
started_same maximum (alloc.Given e base slots) x h = record { outs = h.outs; ins = h.ins }

pub act-same : (q : Act) → leaves_pages q ≡ true → (s : Bk) → Same s.0 (act_b q s).0
act-same (complete e) h s = absurd (true≢false (sym h))
act-same (reset_ring d e) h s = absurd (true≢false (sym h))
act-same (set_enabled_lem d e on) h s = either (iso_out s.0 d e) same (record { outs = λ e. refl; ins = λ e. refl })
act-same (fill e bytes) h s = same
act-same (fill0 bytes) h s = same
act-same (open_oldest e) h s = absurd (true≢false (sym h))
act-same (close_oldest e) h s = absurd (true≢false (sym h))
act-same (take_oldest e) h s = absurd (true≢false (sym h))
act-same (enqueue e bytes) h s = absurd (true≢false (sym h))
act-same (allocate d kind address maximum interval) h s = absurd (true≢false (sym h))
act-same (allocate0 maximum) h s = started_same maximum (allocate_ep0_of s.0.kept.allocator maximum).answer _
    (record { outs = λ e. refl; ins = λ e. refl })
act-same no_wakes h s = record { outs = λ e. refl; ins = λ e. refl }
act-same (waken codes) h s = record { outs = λ e. refl; ins = λ e. refl }

pub never-run : {i : Bool} {p : Script i Answer} → Never i p → (s t : Bk) → Tells is_no s (run book_ops p t)
never-run (n_ret h) s t = t_end (λ k. absurd (true≢false (sym k ∙ h)))
never-run (n_bind {p = p} g) s t = never-bind (run book_ops p t) (λ a s t. never-run (g a) s t) s
never-run (n_test {b = true} h g) s t = never-run h s t
never-run (n_test {b = false} h g) s t = never-run g s t

-- it ends at once; where its changes leave the pages, they are as they were
pub silent-ends : {i : Bool} {ok : Act → Bool} {A : Type 0} {p : Script i A} → HandsOutNothing ok A p → (s : Bk)
    → (a : A) × (t : Bk) × (run book_ops p s ≡ ends a t)
    × (((q : Act) → ok q ≡ true → leaves_pages q ≡ true) → Same s.0 t.0)
silent-ends (c_ret {a = a}) s = (a, s, refl, λ _. same)
silent-ends (c_bind {f = f} h g) s =
    let z = silent-ends h s in
    let w = silent-ends (g z.0) z.1 in (
      w.0,
      w.1,
      ap (λ (o : tree.Out Bk _). bind_out o (λ a t. run book_ops (f a) t)) z.2 ∙ w.2,
      λ l. same_then (z.3 l) (w.3 l),
    )
silent-ends (c_test {b = true} h g) s = silent-ends h s
silent-ends (c_test {b = false} h g) s = silent-ends g s
silent-ends (c_get h) s = silent-ends (h _) s
silent-ends (c_put {c = c} {v = v} h) s = let z = silent-ends h (put_b c v s) in
    (z.0, z.1, z.2, λ l. same_then (put_same c v s) (z.3 l))
silent-ends (c_is h) s = silent-ends (h _) s
silent-ends (c_look h) s = silent-ends (h _) s
silent-ends (c_fetch h) s = silent-ends (h _) s
silent-ends (c_act {q = q} m h) s = let z = silent-ends h (act_b q s) in
    (z.0, z.1, z.2, λ l. same_then (act-same q (l q m) s) (z.3 l))

calm_run : {i : Bool} {A : Type 0} {p : Script i A} → NoPageChange A p → (s : Bk) → Tells any s (run book_ops p s)
calm_run h s = let z = silent-ends h s in subst (λ (o : tree.Out Bk _). Tells any s o) (sym z.2)
    (t_end (λ _. z.3 (λ q l. l)))

-- an allocation that is refused leaves the pages
module _ (d : Dir) (kind address maximum interval : ℕ) (s : Bk) where
  given-never : (e base slots : ℕ) → Never false (allocated_as {i = false} d kind maximum (alloc.Given e base slots))
  given-never e base slots = search fairly depth 20

  by_answer_lem : (z : alloc-answer.Answer) (x : Pages) → Same s.0 x
      → Tells is_no s (run book_ops (allocated_as {i = false} d kind maximum z)
      (given_b d kind maximum interval z x, s.1))
  by_answer_lem (alloc.Refused n) x h = t_end (λ _. h)
  by_answer_lem (alloc.Given e base slots) x h = never-run (given-never e base slots) s
      (given_b d kind maximum interval (alloc.Given e base slots) x, s.1)

  allocate-tells : Tells is_no s (run book_ops (alloc_endpoint {i = false} d kind address maximum interval) s)
  allocate-tells = tells-test (eqb s.0.kept.globals.stage 1)
      (by_answer_lem (allocate_of s.0.kept.allocator kind address maximum d).answer _
      (record { outs = λ e. refl; ins = λ e. refl }))
      (t_end (λ _. same))

fair-run : {i : Bool} {p : Script i Answer} → RefusesBeforeChange i p → (s : Bk) → Tells is_no s (run book_ops p s)
fair-run (f_never h) s = never-run h s s
fair-run f_ret s = t_end (λ _. same)
fair-run (f_bind h g) s = tells-bind (calm_run h s) (λ a t. fair-run (g a) t)
fair-run (f_test {b = true} h g) s = fair-run h s
fair-run (f_test {b = false} h g) s = fair-run g s
fair-run (f_allocate d kind address maximum interval) s = allocate-tells d kind address maximum interval s

-- ---- the calls

fair-slotted : (o : Slotted) → RefusesBeforeChange false (slotted_code o)
fair-slotted (SetEnabled dir e onn) = search fairly depth 20
fair-slotted (PollRead e n) = search fairly depth 40 fits 100000
fair-slotted (BeginWrite e bytes) = search fairly depth 40 fits 100000
fair-slotted (PollWrite e bytes) = search fairly depth 40 fits 100000
fair-slotted (PollDataOut n) = search fairly depth 40 fits 100000
fair-slotted (BeginDataIn bytes first last) = search fairly depth 40 fits 100000

fair-aside : (o : Aside) → RefusesBeforeChange false (aside_code o)
fair-aside (Open e) = search fairly depth 40 fits 100000
fair-aside (Close e) = search fairly depth 40 fits 100000
fair-aside (Queue e bytes) = search fairly depth 40 fits 100000

fair-started : (maximum : ℕ) (a : alloc-answer.Answer) → RefusesBeforeChange false (started_as maximum a)
fair-started maximum (alloc.Refused n) = search fairly
fair-started maximum (alloc.Given e base slots) = search fairly depth 20

fair-read : (bytes : List ℕ) (a : reading-answer.Answer) → RefusesBeforeChange false (allocate_read bytes a)
fair-read bytes (reading.Refused n) = search fairly
fair-read bytes reading.Listed = search fairly depth 30 fits 100000

fair-other : (o : Other) → RefusesBeforeChange false (other_code o)
fair-other (Allocate dir kind address maximum interval) = f_allocate dir kind address maximum interval
fair-other (AllocateAll bytes) = search (fair-read, fairly) depth 20
fair-other (Start maximum) = search (fair-started, fairly) depth 20
fair-other BusPoll = search fairly depth 20
fair-other BusEnable = search fairly depth 20
fair-other BusDisable = search fairly depth 20
fair-other Microframe = search fairly depth 20
fair-other (SetStalled dir e onn) = search fairly depth 20
fair-other (IsStalled dir e) = search fairly depth 20
fair-other (SetPaced e onn) = search fairly depth 20
fair-other (Advance e) = search fairly depth 20
fair-other (BeginRead e n) = search fairly depth 40 fits 100000
fair-other BeginSetup = search fairly depth 20
fair-other PollSetup = search fairly depth 30 fits 100000
fair-other PollDataIn = search fairly depth 40 fits 100000
fair-other BeginAccept = search fairly depth 40 fits 100000
fair-other PollAccept = search fairly depth 40 fits 100000
fair-other BeginReject = search fairly depth 40 fits 100000
fair-other (BeginDataOut n first) = search fairly depth 40 fits 100000
fair-other (BeginAcceptSetAddress a) = search fairly depth 40 fits 100000

fair-interrupt : RefusesBeforeChange true interrupt_code
fair-interrupt = search fairly depth 20

pub call-tells : (o : Op) (s : Bk) → Tells is_no s (run book_ops (code o) s)
call-tells interrupt s = fair-run fair-interrupt s
call-tells (slotted o) s = fair-run (fair-slotted o) s
call-tells (other o) s = fair-run (fair-other o) s
call-tells (aside o) s = fair-run (fair-aside o) s

never-starting : (c : Config) → Never false (starting c)
never-starting c = search fairly depth 20

pub start-tells : (c : Config) (s t : Bk) → Tells is_no s (run book_ops (starting c) t)
start-tells c s t = never-run (never-starting c) s t
