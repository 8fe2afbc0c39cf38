-- An allocation changes no packet of any endpoint, nor does any call but a start-up before EP0's start: over every list
-- of calls
use Rattle.std.specs.Prelude.{Bool, true, false, cond, ◌≡◌, refl, ℕ, zero, suc, eqb}
use Rattle.std.proofs.Common.{true≢false, ap, subst, sym, ◌∙◌, eqb-true}
use Rattle.script.specs.Tree as tree
use Rattle.script.specs.Tree.{ends, asks}
use Rattle.script.specs.Script.{run}
use Rattle.script.specs.Answers.{Answer, Refused}
use Rattle.script.specs.Calls.{Config, Op, other, calls, code, starting, start_row}
use Rattle.script.specs.Machine.{Buf, Call, start, begin, continue, question, pending, Ans, Pending, idle, busy}
use Rattle.script.specs.Machine.{Machine}
use Rattle.script.specs.Machine.{over, misfit, stay, lent_to, during_interrupt, halt, begun, continued, started, fed}
use Rattle.proof_book.specs.Pages.{Kept, Pages}
use Rattle.proof_book.specs.Book.{Bk, fresh_pages, book_ops, book}
use Rattle.proof_book.specs.FrontPage.{book_step, SamePackets, BeforeStart, allocation, allocations}
use Rattle.proof_book.specs.FrontPage as page
use Rattle.proof_book.proofs.RefusedCallsLaws.{is_start}
use Rattle.proof_book.specs.BookTracksLaws.{end, ask}
use Rattle.proof_book.specs.AnswersLaws.{fed-kept}
use Rattle.proof_book.proofs.EarlyScriptsLaws.{Along, Blank, blank-packets, blank-fed, blank-run, of-starting}
use Rattle.proof_book.proofs.EarlyScriptsLaws.{stage, Begins}
use Rattle.proof_book.proofs.EarlyScriptsLaws.{lays, later, row-4, begins, Started, stays-started}

-- what is left of the operation under way, after EP0's start and from blank pages; no interrupt is under way there
abbrev WayStarted : Pending Answer Pages → Type 0
WayStarted idle = Unit {0}
WayStarted (busy i q k) = (v : ℕ) (s : Bk) → Started s.0 → Along Started s (k v s)

abbrev WayBlank : Pending Answer Pages → Type 0
WayBlank idle = Unit {0}
WayBlank (busy i q k) = (i ≡ false) × ((v : ℕ) (s : Bk) → Blank s.0 → Along Blank s (k v s))

pub data Early (n : Machine Answer Pages) : Type 0 where
  started_up : Started n.st → WayStarted n.under_way_lem → Early n
  blank : Blank n.st → WayBlank n.under_way_lem → Early n

-- no start-up
pub no_start : {t : Pages} {c : Call Config Op} → BeforeStart t c → is_start c ≡ false
no_start (allocation d kind address maximum interval) = refl
no_start (allocations bytes) = refl
no_start (page.begun o g) = refl
no_start (page.continued v g) = refl

-- no packet of endpoint e changed
abbrev Packets : ℕ → Pages → Pages → Type 0
Packets e t t' = SamePackets (t.outs e) (t'.outs e) × (t'.ins e ≡ t.ins e)

packets : (t : Pages) (e : ℕ) → Packets e t t
packets t e = (refl, refl)

-- after a call c, from pages t
pub record EarlyAfter (c : Call Config Op) (t : Pages) (y : Ans Answer × Machine Answer Pages) : Type 0 where
  pub machine : Early y.1
  pub leaves : BeforeStart t c → (e : ℕ) → Packets e t y.1.st

module _ (a : Ans Answer) where
  abbrev halts : Bool → tree.Out Bk Answer → Ans Answer × Machine Answer Pages
  halts i o = halt calls book.driver (fed book a) i o

  fed-started : (t : Pages) → Started t → Started (fed book a t)
  fed-started t i = ap (λ (k : Kept). k.globals.stage) (fed-kept a t) ∙ i

  halted-started : (i : Bool) (s : Bk) (o : tree.Out Bk Answer) → Along Started s o → Early (halts i o).1
  halted-started i s (ends z t) (end j q) = started_up j tt
  halted-started i s (asks q t k) (ask j m g) = started_up (fed-started t.0 j) g

  -- an outcome from blank pages
  module _ (c : Call Config Op) (t : Pages) (h : Blank t) where
    stays-blank : (y : Ans Answer × Machine Answer Pages) → Blank y.1.st → WayBlank y.1.under_way_lem
        → EarlyAfter c t y
    stays-blank y k w = record { machine = blank k w; leaves = λ _. blank-packets h k }

    halted-blank : (i : Bool) → i ≡ false → (b : Buf) (o : tree.Out Bk Answer) → Along Blank (t, b) o
        → EarlyAfter c t (halts i o)
    halted-blank i f b (ends z u) (end j q) = stays-blank (halts i (ends z u)) j tt
    halted-blank i f b (asks q u k) (ask j m g) = stays-blank (halts i (asks q u k)) (blank-fed a u.0 j) (f, g)

  -- a row stops it
  stays : (c : Call Config Op) (n : Machine Answer Pages) (b : Buf) (k : ℕ)
      → Early n → EarlyAfter c n.st (stay calls book.driver k (lent_to calls book.driver n b))
  stays c n b k (started_up h w) = record { machine = started_up h w; leaves = λ _. packets n.st }
  stays c n b k (blank h w) = record { machine = blank h w; leaves = λ _. packets n.st }

  either : {c : Call Config Op} {t : Pages} (u : Bool) (x y : Ans Answer × Machine Answer Pages)
      → EarlyAfter c t x → EarlyAfter c t y → EarlyAfter c t (cond u x y)
  either true x y h k = h
  either false x y h k = k

  -- ---- begun after EP0's start

  -- row 4 stops an allocation
  refused : {o : Op} {t : Pages} (b : Buf) → Started t → BeforeStart t (begin o) → run book_ops (code o) (t, b)
      ≡ ends (Refused 4) (t, b)
  refused {t = t} b h (allocation d kind address maximum interval)
      = row-4 (eqb (stage t) 1) _ _ (ap (λ (n : ℕ). eqb n 1) h)
  refused {t = t} b h (allocations bytes) = row-4 (eqb (stage t) 1) _ _ (ap (λ (n : ℕ). eqb n 1) h)
  refused b h (page.begun o g) = absurd (g h)

  begun-started : (o : Op) (t : Pages) (b : Buf) → Started t
      → EarlyAfter (begin o) t (halts (calls.irq o) (run book_ops (code o) (t, b)))
  begun-started o t b h = record {
    machine = halted-started (calls.irq o) (t, b) (run book_ops (code o) (t, b)) (stays-started (code o) (t, b) h);
    leaves = λ g e. subst (λ (z : tree.Out Bk Answer). Packets e t (halts (calls.irq o) z).1.st)
        (sym (refused b h g)) (packets t e);
  }

  -- ---- begun on blank pages

  begun-blank : (o : Op) (t : Pages) (b : Buf) → Blank t → eqb (stage t) 2 ≡ false → Begins o
      → EarlyAfter (begin o) t (halts (calls.irq o) (run book_ops (code o) (t, b)))
  begun-blank _ t b h k (lays o l) = halted-blank (begin (other o)) t h false refl b
      (run book_ops (code (other o)) (t, b)) (blank-run l (t, b) h)
  begun-blank _ t b h k (later o r) = subst (λ (z : tree.Out Bk Answer). EarlyAfter (begin o) t
      (halts (calls.irq o) z)) (sym (r (t, b) k))
      (stays-blank (begin o) t h (halts (calls.irq o) (ends (Refused 4) (t, b))) h tt)

  begun_idle : (o : Op) (t : Pages) (b : Buf) → Blank t
      → EarlyAfter (begin o) t (halts (calls.irq o) (run book_ops (code o) (t, b)))
  begun_idle o t b h = by (eqb (stage t) 2) refl
    where
      by : (u : Bool) → eqb (stage t) 2 ≡ u → EarlyAfter (begin o) t
          (halts (calls.irq o) (run book_ops (code o) (t, b)))
      by true k = begun-started o t b (eqb-true (stage t) 2 k)
      by false k = begun-blank o t b h k (begins o)

  -- ---- a call

  module _ (n : Machine Answer Pages) (b : Buf) where
    abbrev besides : tree.Out Bk Answer → Ans Answer × Machine Answer Pages
    besides z = during_interrupt calls book.driver (lent_to calls book.driver n b) z

    beside-early : Started n.st → WayStarted n.under_way_lem → (z : tree.Out Bk Answer) → Along Started (n.st, b) z
        → Early (besides z).1
    beside-early h w (ends z t) (end j q) = started_up j w
    beside-early h w (asks q t k) m = started_up h w

    beside-after : (o : Op) → Started n.st → WayStarted n.under_way_lem
        → EarlyAfter (begin o) n.st (besides (run book_ops (code o) (n.st, b)))
    beside-after o h w = record {
      machine = beside-early h w (run book_ops (code o) (n.st, b)) (stays-started (code o) (n.st, b) h);
      leaves = λ g e. subst (λ (z : tree.Out Bk Answer). Packets e n.st (besides z).1.st)
          (sym (refused b h g)) (packets n.st e);
    }

    begun-after : (o : Op) → Early n → (w : Pending Answer Pages) → n.under_way_lem ≡ w
        → EarlyAfter (begin o) n.st (begun calls book.driver (fed book a) o n w b)
    begun-after o (started_up h w) idle p = begun-started o n.st b h
    begun-after o (blank h w) idle p = begun_idle o n.st b h
    begun-after o (started_up h w) (busy i q k) p = either (cond i (calls.aside o) false) _ _ (beside-after o h w)
        (stays (begin o) n b 3 (started_up h w))
    begun-after o (blank h w) (busy i q k) p = subst
        (λ (u : Bool). EarlyAfter (begin o) n.st (cond (cond u (calls.aside o) false)
        (besides (run book_ops (code o) (n.st, b)))
        (stay calls book.driver 3 (lent_to calls book.driver n b)))) (sym (subst WayBlank p w).0)
        (stays (begin o) n b 3 (blank h w))

    not-started : {v : ℕ} → BeforeStart n.st (continue v) → Started n.st → ⊥
    not-started (page.continued v g) h = g h

    continued-after : (v : ℕ) → Early n → (w : Pending Answer Pages) → n.under_way_lem ≡ w
        → EarlyAfter (continue v) n.st (continued calls book.driver (fed book a) v n w b)
    continued-after v x idle p = stays (continue v) n b 15 x
    continued-after v (started_up h w) (busy i q k) p = either (over calls q v) _ _
        (stays (continue v) n b 16 (started_up h w)) (record {
          machine = halted-started i (n.st, b) (k v (n.st, b)) (subst WayStarted p w v (n.st, b) h);
          leaves = λ g e. absurd (not-started g h);
        })
    continued-after v (blank h w) (busy i q k) p = either (over calls q v) _ _ (stays (continue v) n b 16 (blank h w))
        (let z = subst WayBlank p w in halted-blank (continue v) n.st h i z.0 b (k v (n.st, b))
        (z.1 v (n.st, b) h))

  fresh-blank : (c : Config) → Blank (fresh_pages c)
  fresh-blank c = record { outs = λ e. refl; ins = λ e. refl }

  pub start-early : (c : Config) (n : Machine Answer Pages) (b : Buf)
      → Early (started calls book.driver (fed book a) c zero n b).1
  start-early c n b = (halted-blank (question (pending 0)) (fresh_pages c) (fresh-blank c) false refl b
      (run book_ops (starting c) (fresh_pages c, b)) (blank-run (of-starting c) (fresh_pages c, b)
      (fresh-blank c))).machine

  started-after : (c : Config) (r : ℕ) (n : Machine Answer Pages) (b : Buf) → Early n
      → Early (started calls book.driver (fed book a) c r n b).1
  started-after c zero n b h = start-early c n b
  started-after c (suc r) n b h = h

  stays_put : (c : Call Config Op) (n : Machine Answer Pages) (k : ℕ) → Early n
      → EarlyAfter c n.st (stay calls book.driver k n)
  stays_put c n k h = record { machine = h; leaves = λ _. packets n.st }

  pub early-call : (c : Call Config Op) (n : Machine Answer Pages) → Early n → (b : Buf)
      → EarlyAfter c n.st (book_step a c n b)
  early-call (start c) n h b = record {
    machine = started-after c (start_row c b) n b h;
    leaves
        = λ g e. absurd (true≢false (no_start g));
  }
  early-call (begin o) n h b = either (cond (calls.slots o) (misfit calls book.driver n.st b) false) _ _
      (stays_put (begin o) n 1 h) (begun-after n b o h n.under_way_lem refl)
  early-call (continue v) n h b = either (misfit calls book.driver n.st b) _ _ (stays_put (continue v) n 1 h)
      (continued-after n b v h n.under_way_lem refl)
  early-call (question q) n h b = record {
    machine = (stays (question q) n b 0 h).machine;
    leaves
        = λ _. packets n.st;
  }
