-- Before EP0's start no packet waits: the scripts of allocations, EP0's start and start-up taken apart, and their runs
-- from blank pages; row 4 stops all others. After it no script takes the stage back
use Rattle.std.specs.Prelude.{Bool, true, false, cond, ◌&&◌, List, [], ◌∷◌, ◌≢◌, ◌≡◌, refl, ℕ, zero, suc, eqb, length}
use Rattle.std.proofs.Common.{true≢false, ap, subst, sym, ◌∙◌}
use Rattle.regs.specs.declared.Access.{Access}
use Rattle.regs.specs.declared.Reg.{Reg}
use Rattle.regs.specs.declared.Dir.{Dir}
use Rattle.regs.specs.declared.Dir.TheVariants.{Out, In}
use Rattle.alloc.specs.declared.Answer as alloc-answer
use Rattle.alloc.specs.declared.Answer.TheVariants as alloc
use Rattle.alloc.specs.Alloc.{allocate_of, allocate_ep0_of}
use Rattle.descriptor.specs.declared.Endpoint.{Endpoint}
use Rattle.descriptor.specs.declared.Answer as reading-answer
use Rattle.descriptor.specs.declared.Answer.TheVariants as reading
use Rattle.script.specs.Tree as tree
use Rattle.script.specs.Tree.{ends}
use Rattle.script.specs.Cells.{Cell, Val, globals-cell, control-cell, allocator-cell, ep-cell, request-cell, paced_cell}
use Rattle.script.specs.Script.{Script, run, rows, ret, bind, test, read_then, write_then, wait_then, callback_then}
use Rattle.script.specs.Script.{get_then, put_then, is_then, look_then, fetch_then, act_then, hand_then, row_then}
use Rattle.script.specs.Script.{Act, complete, reset_ring, set_enabled_lem, fill, fill0, open_oldest, close_oldest}
use Rattle.script.specs.Script.{take_oldest, enqueue, allocate, allocate0, no_wakes, waken, DmaStep, arrive, send}
use Rattle.script.specs.Script.{place}
use Rattle.script.specs.Script.{place0, Burst, switch, bus_reset_lem, last_of}
use Rattle.script.specs.Driver.{allocated_as, started_as}
use Rattle.script.specs.AllocateAll.{allocate_each, announce, announce_all, allocate_read}
use Rattle.script.specs.Answers.{Answer, Refused}
use Rattle.script.specs.Calls.{Config, Op, interrupt, slotted, other, aside, Slotted, SetEnabled, PollRead, BeginWrite}
use Rattle.script.specs.Calls.{PollWrite, PollDataOut, BeginDataIn, Other, Allocate, AllocateAll, Start, BusPoll}
use Rattle.script.specs.Calls.{BusEnable, BusDisable, Microframe, SetStalled, IsStalled, SetPaced, Advance, BeginRead}
use Rattle.script.specs.Calls.{BeginSetup, PollSetup, PollDataIn, BeginAccept, PollAccept, BeginReject, BeginDataOut}
use Rattle.script.specs.Calls.{BeginAcceptSetAddress, Aside, Open, Close, Queue, code, other_code, starting}
use Rattle.script.specs.Machine.{Ans, fed}
use Rattle.script.specs.Steps.{giving, may_act}
use Rattle.script.specs.StepsRuns.{Keeps}
use Rattle.proof_book.specs.Pages.{OutPage, InPage, Pages, with_out, with_in}
use Rattle.proof_book.specs.Book.{Bk, some, empty_out, slot_told, empty_in, source_told, placed_in, room_b, put_b, act_b}
use Rattle.proof_book.specs.Book.{hand_b, row_b, iso_of, iso_out, receiving, waits_on, given_b, started_b}
use Rattle.proof_book.specs.Book.{book_ops, book}
use Rattle.proof_book.specs.FrameLaws.{at-elim}
use Rattle.proof_book.proofs.GivenPartsLaws.{sets_stage}
use Rattle.proof_book.specs.FrontPage.{SamePackets}
use Rattle.proof_book.specs.BookTracksLaws.{Tracks, end, ask, earlier, tracks_bind}
use Rattle.proof_book.specs.AnswersLaws.{fed-elim}
use Rattle.proof_book.specs.RefusingLaws.{Same, leaves_pages, HandsOutNothing, c_ret, c_get, silently, silent-ends}
use Rattle.proof_book.specs.AnnouncingLaws.{announced}

-- ---- what holds of the pages all along

abbrev Whatever : Bk → Bk → Type 0
Whatever s t = Unit {0}

abbrev WhateverAt : Bk → Access → Bk → Type 0
WhateverAt s q t = Unit {0}

abbrev pub Along : (Pages → Type 0) → {A : Type 0} → Bk → tree.Out Bk A → Type 0
Along I s o = Tracks I Whatever WhateverAt s o

after : {I : Pages → Type 0} {A : Type 0} {s t : Bk} {o : tree.Out Bk A} → Along I t o → Along I s o
after {I} w = earlier I Whatever WhateverAt (λ _ _ _ _ _. tt) (λ _ _ _ _ _ _. tt) tt w

along_bind : {I : Pages → Type 0} {A B : Type 0} {s : Bk} {o : tree.Out Bk A} {f : A → Bk → tree.Out Bk B}
    → Along I s o → ((a : A) (t : Bk) → I t.0 → Along I t (f a t)) → Along I s (tree.bind_out o f)
along_bind {I} h g = tracks_bind I Whatever WhateverAt (λ _ _ _ _ _. tt) (λ _ _ _ _ _ _. tt) h g

-- ---- blank pages

abbrev blank_out : OutPage
blank_out = record { waiting = []; opened = false; lost = 0; slot = 0; admitted = []; read = [] }

-- a page as a start-up makes it, but for its slot
abbrev BlankOut : OutPage → Type 0
BlankOut p = p ≡ slot_told blank_out p.slot

pub record Blank (t : Pages) : Type 0 where
  pub outs : (e : ℕ) → BlankOut (t.outs e)
  pub ins : (e : ℕ) → t.ins e ≡ empty_in

pub blank-packets : {t t' : Pages} → Blank t → Blank t' → (e : ℕ) → SamePackets (t.outs e) (t'.outs e)
    × (t'.ins e ≡ t.ins e)
blank-packets {t} {t'} h k e =
    (k.outs e ∙ ap (λ (p : OutPage). slot_told p (t'.outs e).slot) (sym (h.outs e)), k.ins e ∙ sym (h.ins e))

blank-same : {t t' : Pages} → Same t t' → Blank t → Blank t'
blank-same h i = record { outs = λ e. subst BlankOut (sym (h.outs e)) (i.outs e); ins = λ e. h.ins e ∙ i.ins e }

blank-out : (t : Pages) (e x : ℕ) → Blank t → Blank (with_out t e (slot_told (empty_out (t.outs e)) x))
blank-out t e x i = record {
  outs = λ y. at-elim BlankOut e y (slot_told (empty_out (t.outs e)) x) t.outs
      (λ _. ap (λ (p : OutPage). slot_told (empty_out p) x) (i.outs e)) (λ _. i.outs y);
  ins = i.ins;
}

blank-in : (t : Pages) (e : ℕ) (p : InPage) → p ≡ empty_in → Blank t → Blank (with_in t e p)
blank-in t e p h i = record {
  outs = i.outs;
  ins = λ y. at-elim (λ (q : InPage). q ≡ empty_in) e y p t.ins (λ _. h)
      (λ _. i.ins y);
}

blank-given : (d : Dir) (kind maximum interval : ℕ) (z : alloc-answer.Answer) (t : Pages) → Blank t
    → Blank (given_b d kind maximum interval z t)
blank-given d kind maximum interval (alloc.Refused n) t i = i
blank-given Out kind maximum interval (alloc.Given e base slots) t i =
    let k = blank-out t e base i in record { outs = k.outs; ins = k.ins }
blank-given In kind maximum interval (alloc.Given e base slots) t i =
    let k = blank-in t e empty_in refl i in record { outs = k.outs; ins = k.ins }

blank-allocate : (d : Dir) (kind address maximum interval : ℕ) (s : Bk) → Blank s.0
    → Blank (act_b (allocate d kind address maximum interval) s).0
blank-allocate d kind address maximum interval s i =
    blank-given d kind maximum interval (allocate_of s.0.kept.allocator kind address maximum d).answer _
    (record { outs = i.outs; ins = i.ins })

blank-place : (d : Dir) (e : ℕ) (s : Bk) → Blank s.0 → Blank (hand_b (place d e) s).1.0
blank-place Out e s i = i
blank-place In e s i = blank-in s.0 e (placed_in (s.0.ins e)) (ap placed_in (i.ins e)) i

-- what is told
pub blank-fed : (a : Ans Answer) (t : Pages) → Blank t → Blank (fed book a t)
blank-fed a t i = fed-elim Blank a t i
    (λ e x _. record {
      outs = λ y. at-elim BlankOut e y (slot_told (t.outs e) x) t.outs
          (λ _. ap (λ (p : OutPage). slot_told p x) (i.outs e)) (λ _. i.outs y);
      ins = i.ins;
    })
    (λ e x _. blank-in t e (source_told (t.ins e) x) (ap (λ (p : InPage). source_told p x) (i.ins e)) i)

-- ---- scripts that lay out endpoints' buffers

pub data Lays : (A : Type 0) → Script false A → Type 1 where
  -- it hands out nothing, and leaves the pages
  l_calm : {A : Type 0} {p : Script false A} → HandsOutNothing leaves_pages A p → Lays A p
  l_bind : {A B : Type 0} {p : Script false B} {f : B → Script false A} → Lays B p → ((b : B) → Lays A (f b))
      → Lays A (bind p f)
  l_test : {A : Type 0} {b : Bool} {p q : Script false A} → Lays A p → Lays A q → Lays A (test b p q)
  l_read : {A : Type 0} {r : Reg} {e : ℕ} {k : ℕ → Script false A} → ((v : ℕ) → Lays A (k v)) → Lays A (read_then r e k)
  l_write : {A : Type 0} {r : Reg} {e v : ℕ} {p : Script false A} → Lays A p → Lays A (write_then r e v p)
  l_wait : {A : Type 0} {n : ℕ} {p : Script false A} → Lays A p → Lays A (wait_then n p)
  l_allocate : {A : Type 0} {d : Dir} {kind address maximum interval : ℕ} {p : Script false A} → Lays A p
      → Lays A (act_then (allocate d kind address maximum interval) p)
  l_place : {A : Type 0} {d : Dir} {e : ℕ} {p : Script false A} → Lays A p → Lays A (hand_then (place d e) p)
  l_place0 : {A : Type 0} {p : Script false A} → Lays A p → Lays A (hand_then place0 p)

ruleset laying = (l_bind, l_test, l_read, l_write, l_wait, l_allocate, l_place, l_place0, l_calm, silently)

pub blank-run : {A : Type 0} {p : Script false A} → Lays A p → (s : Bk) → Blank s.0 → Along Blank s (run book_ops p s)
blank-run (l_calm h) s i =
    let z = silent-ends h s in subst (λ (o : tree.Out Bk _). Along Blank s o) (sym z.2)
    (end (blank-same (z.3 (λ q l. l)) i) tt)
blank-run (l_bind h g) s i = along_bind (blank-run h s i) (λ a t j. blank-run (g a) t j)
blank-run (l_test {b = true} h g) s i = blank-run h s i
blank-run (l_test {b = false} h g) s i = blank-run g s i
blank-run (l_read h) s i = ask i tt (λ v t j. blank-run (h v) t j)
blank-run (l_write h) s i = ask i tt (λ v t j. blank-run h t j)
blank-run (l_wait h) s i = ask i tt (λ v t j. blank-run h t j)
blank-run (l_allocate {d = d} {kind = kind} {address = address} {maximum = maximum} {interval = interval} h) s i =
    after (blank-run h (act_b (allocate d kind address maximum interval) s)
    (blank-allocate d kind address maximum interval s i))
blank-run (l_place {d = d} {e = e} h) s i = ask (blank-place d e s i) tt (λ v t j. blank-run h t j)
blank-run (l_place0 h) s i = ask i tt (λ v t j. blank-run h t j)

of-each : (es : List Endpoint) → Lays Unit (allocate_each es)
unfolding allocate_each
of-each [] = search laying
of-each (e ∷ es) = l_bind (l_allocate (l_calm c_ret)) (λ _. of-each es)

of-announce : (dir : Dir) (e : ℕ) → Lays ℕ (announce dir e)
of-announce dir e = search laying depth 20

of-announce-all : (es : List Endpoint) → Lays ℕ (announce_all es)
of-announce-all = announced Lays (record {
  end = l_calm c_ret;
  then = l_bind;
  either = l_test;
  got
      = λ c. l_calm (c_get (λ _. c_ret));
}) of-announce

of-allocate-read : (bytes : List ℕ) (a : reading-answer.Answer) → Lays Answer (allocate_read bytes a)
of-allocate-read bytes (reading.Refused n) = search laying
of-allocate-read bytes reading.Listed = search (of-each, of-announce-all, laying) depth 20

of-allocated : (d : Dir) (kind maximum : ℕ) (a : alloc-answer.Answer) → Lays Answer (allocated_as d kind maximum a)
of-allocated d kind maximum (alloc.Refused n) = search laying
of-allocated d kind maximum (alloc.Given e base slots) = search laying depth 20

of-started : (maximum : ℕ) (a : alloc-answer.Answer) → Lays Answer (started_as maximum a)
of-started maximum (alloc.Refused n) = search laying
of-started maximum (alloc.Given e base slots) = search laying depth 20

pub of-starting : (c : Config) → Lays Answer (starting c)
of-starting c = search laying depth 30

-- ---- every call: such a script, or one that row 4 stops before EP0's start

-- 1 after start-up, 2 after EP0's start
abbrev pub stage : Pages → ℕ
stage t = t.kept.globals.stage

pub data Begins : Op → Type 1 where
  lays : (o : Other) → Lays Answer (other_code o) → Begins (other o)
  later : (o : Op) → ((s : Bk) → eqb (stage s.0) 2 ≡ false → run book_ops (code o) s ≡ ends (Refused 4) s) → Begins o

pub row-4 : (u : Bool) (x y : tree.Out Bk Answer) → u ≡ false → cond u x y ≡ y
row-4 true x y h = absurd (true≢false h)
row-4 false x y h = refl

begins-slotted : (o : Slotted) → Begins (slotted o)
begins-slotted (SetEnabled d e on) = later _ (λ s h. row-4 (eqb (stage s.0) 2) _ _ h)
begins-slotted (PollRead e n) = later _ (λ s h. row-4 (eqb (stage s.0) 2) _ _ h)
begins-slotted (BeginWrite e bytes) = later _ (λ s h. row-4 (eqb (stage s.0) 2) _ _ h)
begins-slotted (PollWrite e bytes) = later _ (λ s h. row-4 (eqb (stage s.0) 2) _ _ h)
begins-slotted (PollDataOut n) = later _ (λ s h. row-4 (eqb (stage s.0) 2) _ _ h)
begins-slotted (BeginDataIn bytes first last) = later _ (λ s h. row-4 (eqb (stage s.0) 2) _ _ h)

begins-other : (o : Other) → Begins (other o)
begins-other (Allocate d kind address maximum interval)
    = lays (Allocate d kind address maximum interval) (search (of-allocated, laying) depth 20)
begins-other (AllocateAll bytes) = lays (AllocateAll bytes) (search (of-allocate-read, laying) depth 20)
begins-other (Start maximum) = lays (Start maximum) (search (of-started, laying) depth 20)
begins-other BusPoll = later _ (λ s h. row-4 (eqb (stage s.0) 2) _ _ h)
begins-other BusEnable = later _ (λ s h. row-4 (eqb (stage s.0) 2) _ _ h)
begins-other BusDisable = later _ (λ s h. row-4 (eqb (stage s.0) 2) _ _ h)
begins-other Microframe = later _ (λ s h. row-4 (eqb (stage s.0) 2) _ _ h)
begins-other (SetStalled d e on) = later _ (λ s h. row-4 (eqb (stage s.0) 2) _ _ h)
begins-other (IsStalled d e) = later _ (λ s h. row-4 (eqb (stage s.0) 2) _ _ h)
begins-other (SetPaced e on) = later _ (λ s h. row-4 (eqb (stage s.0) 2) _ _ h)
begins-other (Advance e) = later _ (λ s h. row-4 (eqb (stage s.0) 2) _ _ h)
begins-other (BeginRead e n) = later _ (λ s h. row-4 (eqb (stage s.0) 2) _ _ h)
begins-other BeginSetup = later _ (λ s h. row-4 (eqb (stage s.0) 2) _ _ h)
begins-other PollSetup = later _ (λ s h. row-4 (eqb (stage s.0) 2) _ _ h)
begins-other PollDataIn = later _ (λ s h. row-4 (eqb (stage s.0) 2) _ _ h)
begins-other BeginAccept = later _ (λ s h. row-4 (eqb (stage s.0) 2) _ _ h)
begins-other PollAccept = later _ (λ s h. row-4 (eqb (stage s.0) 2) _ _ h)
begins-other BeginReject = later _ (λ s h. row-4 (eqb (stage s.0) 2) _ _ h)
begins-other (BeginDataOut n first) = later _ (λ s h. row-4 (eqb (stage s.0) 2) _ _ h)
begins-other (BeginAcceptSetAddress a) = later _ (λ s h. row-4 (eqb (stage s.0) 2) _ _ h)

begins-aside : (o : Aside) → Begins (aside o)
begins-aside (Open e) = later _ (λ s h. row-4 (eqb (stage s.0) 2) _ _ h)
begins-aside (Close e) = later _ (λ s h. row-4 (eqb (stage s.0) 2) _ _ h)
begins-aside (Queue e bytes) = later _ (λ s h. row-4 (eqb (stage s.0) 2) _ _ h)

pub begins : (o : Op) → Begins o
begins interrupt = later _ (λ s h. row-4 (eqb (stage s.0) 2) _ _ h)
begins (slotted o) = begins-slotted o
begins (other o) = begins-other o
begins (aside o) = begins-aside o

-- ---- the stage

-- what is said of it: EP0's start alone changes it
module _ (P : ℕ → Type 0) where
  abbrev pub Stands : Pages → Type 0
  Stands t = P (stage t)

  either : (u : Bool) (x y : Pages) → Stands x → Stands y → Stands (cond u x y)
  either true x y h k = h
  either false x y h k = k

  either-of : (u : Bool) (x y : Bk) → Stands x.0 → Stands y.0 → Stands (cond u x y).0
  either-of true x y h k = h
  either-of false x y h k = k

  pub puts : (c : Cell) (v : Val c) (s : Bk) → Stands s.0 → Stands (put_b c v s).0
  puts globals-cell v s i = i
  puts control-cell v s i = i
  puts allocator-cell v s i = i
  puts (ep-cell d e) v s i = i
  puts (request-cell d e) v s i = i
  puts (paced_cell e) v s i = i

  given : (d : Dir) (kind maximum interval : ℕ) (z : alloc-answer.Answer) (t : Pages) → Stands t
      → Stands (given_b d kind maximum interval z t)
  given d kind maximum interval (alloc.Refused n) t i = i
  given Out kind maximum interval (alloc.Given e base slots) t i
      = subst P (sym (sets_stage Out kind interval e t.kept.globals)) i
  given In kind maximum interval (alloc.Given e base slots) t i
      = subst P (sym (sets_stage In kind interval e t.kept.globals)) i

  begun : (maximum : ℕ) (z : alloc-answer.Answer) (t : Pages) → P 2 → Stands t → Stands (started_b maximum z t)
  begun maximum (alloc.Refused n) t p i = i
  begun maximum (alloc.Given e base slots) t p i = p

  pub acts : (q : Act) → ((maximum : ℕ) → q ≡ allocate0 maximum → P 2) → (s : Bk) → Stands s.0 → Stands (act_b q s).0
  acts (complete e) p s i = i
  acts (reset_ring Out e) p s i = either (iso_of s.0 Out e) _ _ i i
  acts (reset_ring In e) p s i = i
  acts (set_enabled_lem d e onn) p s i = either (iso_out s.0 d e) _ _ i i
  acts (fill e bytes) p s i = i
  acts (fill0 bytes) p s i = i
  acts (open_oldest e) p s i = either (some (waits_on s.0 Out e)) _ _ i i
  acts (close_oldest e) p s i = either (s.0.outs e).opened _ _ i i
  acts (take_oldest e) p s i = either (some (waits_on s.0 Out e)) _ _ i i
  acts (enqueue e bytes) p s i = either-of (room_b s.0 e (length bytes)) _ _ i i
  acts (allocate d kind address maximum interval) p s i =
      given d kind maximum interval (allocate_of s.0.kept.allocator kind address maximum d).answer _ i
  acts (allocate0 maximum) p s i = begun maximum (allocate_ep0_of s.0.kept.allocator maximum).answer _
      (p maximum refl) i
  acts no_wakes p s i = i
  acts (waken codes) p s i = i

  pub hands : (q : DmaStep) (s : Bk) → Stands s.0 → Stands (hand_b q s).1.0
  hands (arrive e n) s i = either (receiving s.0 e) _ _ i i
  hands (send e) s i = i
  hands (place Out e) s i = i
  hands (place In e) s i = i
  hands place0 s i = i

  pub row-steps : (g : Burst) (n : ℕ) (s : Bk) → Stands s.0 → Stands (row_b g n s).1.0
  row-steps (switch e onn) zero s i = i
  row-steps (switch e onn) (suc zero) s i = i
  row-steps (switch e onn) (suc (suc zero)) s i = i
  row-steps (switch e onn) (suc (suc (suc k))) s i = either (iso_of s.0 Out e && eqb k 15) _ _ i i
  row-steps bus_reset_lem zero s i = i
  row-steps bus_reset_lem (suc zero) s i = i
  row-steps bus_reset_lem (suc (suc zero)) s i = i
  row-steps bus_reset_lem (suc (suc (suc k))) s i = i

-- ---- before EP0's start: an allocation keeps the stage

abbrev pub Unstarted : Bk → Type 0
Unstarted s = stage s.0 ≢ 2

pub giving-keeps : Keeps book_ops Unstarted giving
giving-keeps = record {
  put = λ c v m s i. puts (λ n. n ≢ 2) c v s i;
  act = λ q m s i. acts (λ n. n ≢ 2) q (λ maximum h. absurd (true≢false (sym m ∙ ap (may_act giving) h))) s i;
  hand = λ q m s i. hands (λ n. n ≢ 2) q s i;
  row = λ g m n s i. row-steps (λ n. n ≢ 2) g n s i;
}

-- ---- after EP0's start

abbrev pub Started : Pages → Type 0
Started t = stage t ≡ 2

follow-rows : {A : Type 0} (g : Burst) (n : ℕ) {k : Bk → tree.Out Bk A}
    → ((t : Bk) → Started t.0 → Along Started t (k t)) → (s : Bk) → Started s.0
    → Along Started s (rows book_ops g n k s)
follow-rows g zero h s i = ask (row-steps (λ n. n ≡ 2) g zero s i) tt (λ v t j. h t j)
follow-rows g (suc n) h s i = ask (row-steps (λ n. n ≡ 2) g (suc n) s i) tt (λ v t j. follow-rows g n h t j)

pub stays-started : {i : Bool} {A : Type 0} (p : Script i A) (s : Bk) → Started s.0
    → Along Started s (run book_ops p s)
stays-started (ret a) s i = end i tt
stays-started (bind p f) s i = along_bind (stays-started p s i) (λ a t j. stays-started (f a) t j)
stays-started (test true p q) s i = stays-started p s i
stays-started (test false p q) s i = stays-started q s i
stays-started (read_then r e k) s i = ask i tt (λ v t j. stays-started (k v) t j)
stays-started (write_then r e v p) s i = ask i tt (λ _ t j. stays-started p t j)
stays-started (wait_then n p) s i = ask i tt (λ _ t j. stays-started p t j)
stays-started (callback_then p) s i = ask i tt (λ _ t j. stays-started p t j)
stays-started (get_then c k) s i = stays-started (k _) s i
stays-started (put_then c v p) s i = after (stays-started p (put_b c v s) (puts (λ n. n ≡ 2) c v s i))
stays-started (is_then q k) s i = stays-started (k _) s i
stays-started (look_then q k) s i = stays-started (k _) s i
stays-started (fetch_then q k) s i = stays-started (k _) s i
stays-started (act_then q p) s i = after (stays-started p (act_b q s) (acts (λ n. n ≡ 2) q (λ _ _. refl) s i))
stays-started (hand_then q p) s i = ask (hands (λ n. n ≡ 2) q s i) tt (λ _ t j. stays-started p t j)
stays-started (row_then g p) s i = follow-rows g (last_of g) (λ t j. stays-started p t j) s i
