-- A bus reset by the book: none wait on any endpoint after the call that releases its flag, be it a continue or a begin
use Rattle.std.specs.Prelude.{Bool, true, false, cond, ◌≡◌, refl, ℕ, eqb}
use Rattle.std.proofs.Common.{true≢false, inl, inr, ap, subst, sym, ◌∙◌}
use Rattle.regs.specs.declared.Access.{Access}
use Rattle.regs.specs.declared.Dir.{Dir}
use Rattle.regs.specs.declared.Dir.TheVariants.{Out, In}
use Rattle.script.specs.Tree as tree
use Rattle.script.specs.Tree.{ends, asks}
use Rattle.script.specs.Script.{run}
use Rattle.script.specs.Answers.{Answer}
use Rattle.script.specs.Calls.{Config, Op, interrupt, slotted, other, aside, calls, code}
use Rattle.script.specs.Machine.{Buf, Call, begin, continue, Ans, blank_a, Pending, idle, busy, Machine, over}
use Rattle.script.specs.Machine.{misfit, stay, lent_to, during_interrupt, halt, begun, continued, fed}
use Rattle.proof_book.specs.Pages.{Pages}
use Rattle.proof_book.specs.Book.{Bk, book_ops, book}
use Rattle.proof_book.specs.FrontPage.{book_step, in_interrupt, Emptied}
use Rattle.proof_book.specs.BookTracksLaws.{ask}
use Rattle.proof_book.proofs.BookCountsLaws.{Followed, Counts, follow}
use Rattle.proof_book.proofs.BookCallsLaws.{Fine, WayFine}
use Rattle.proof_book.specs.Others.{releases, releasing}
use Rattle.proof_book.specs.ReleasesLaws.{Clear, Clears, clears, of-slotted, of_other, of-aside}
use Rattle.proof_book.specs.AnswersLaws.{releasing-same}
use Rattle.proof_book.proofs.EnablingLaws.{Empty, told-empty}

-- no one is turned away there
uncounted : (s t : Bk) (q : Access) → releases q ≡ true → Counts s q t → (e : ℕ) → (t.0.outs e).lost
    ≡ (s.0.outs e).lost
uncounted s t q h c e = elim (c e) [
  | inl x ↦ x
  | inr x ↦ absurd (true≢false (sym h ∙ ap releases x.access))
]

-- whether an outcome begins with that release
abbrev opening : tree.Out Bk Answer → Bool
opening (ends z t) = false
opening (asks q t k) = releases q

module _ (a : Ans Answer) (n : Machine Answer Pages) (h : Fine n) (b : Buf) (dir : Dir) (e : ℕ) where
  abbrev Resets : Ans Answer × Machine Answer Pages → Type 0
  Resets y = releasing y.0 ≡ true → Emptied dir e n.st y.1.st

  of-clear : (dir : Dir) (t : Pages) → (t.outs e).lost ≡ (n.st.outs e).lost → ((x : ℕ) → Clear (t.outs x) (t.ins x))
      → Empty dir e n.st t
  of-clear Out t l c = let p = c e in record {
    waiting = p.waiting;
    opened = p.opened;
    admitted = p.admitted;
    read
        = p.read;
    lost = l;
  }
  of-clear In t l c = λ x _. let p = c x in record {
    waiting = p.waiting_in;
    sending = p.sending;
    queued
        = p.queued;
    sent = p.sent;
    passed = p.passed;
  }

  at-access : (o : tree.Out Bk Answer) → Followed (n.st, b) o → Clears (n.st, b) o
      → Resets (halt calls book.driver (fed book a) false o)
  at-access (ends z t) f w k = absurd (true≢false (sym k))
  at-access (asks q t g) (ask j m f) (ask j' m' f') k = told-empty a dir e n.st t.0 j
      (of-clear dir t.0 (uncounted (n.st, b) t q k m e) (m' k))

  wide_by : (u : Bool) (y : Ans Answer × Machine Answer Pages) → Resets y
      → Resets (cond u (stay calls book.driver 16 (lent_to calls book.driver n b)) y)
  wide_by true y s k = absurd (true≢false (sym k))
  wide_by false y s k = s k

  way_by : (v : ℕ) (w : Pending Answer Pages) → WayFine w → in_interrupt w ≡ false
      → Resets (continued calls book.driver (fed book a) v n w b)
  way_by v idle g i k = absurd (true≢false (sym k))
  way_by v (busy true q f) g i k = absurd (true≢false i)
  way_by v (busy false q f) g i k = wide_by (over calls q v) _
      (at-access (f v (n.st, b)) (g v (n.st, b) h.pages).0 (g v (n.st, b) h.pages).1) k

  fits_by : (v : ℕ) (u : Bool) → in_interrupt n.under_way_lem ≡ false
      → Resets (cond u (stay calls book.driver 1 n)
      (continued calls book.driver (fed book a) v n n.under_way_lem b))
  fits_by v true i k = absurd (true≢false (sym k))
  fits_by v false i k = way_by v n.under_way_lem h.under_way_lem i k

  -- a begin: the interrupt's reads first
  either : (u : Bool) (x y : Ans Answer × Machine Answer Pages) → Resets x → Resets y → Resets (cond u x y)
  either true x y p q = p
  either false x y p q = q

  reads_first : (u : Bool) (x y : tree.Out Bk Answer) → opening x ≡ false → opening y ≡ false
      → opening (cond u x y) ≡ false
  reads_first true x y p q = p
  reads_first false x y p q = q

  quietly : (o : tree.Out Bk Answer) → opening o ≡ false → Resets (halt calls book.driver (fed book a) true o)
  quietly (ends z t) g k = absurd (true≢false (sym k))
  quietly (asks q t f) g k = absurd (true≢false (sym k ∙ g))

  alone : (o : Op) → Resets (halt calls book.driver (fed book a) (calls.irq o) (run book_ops (code o) (n.st, b)))
  alone interrupt = quietly (run book_ops (code interrupt) (n.st, b))
      (reads_first (eqb n.st.kept.globals.stage 2) _ _ refl refl)
  alone (slotted o) = at-access _ (follow (code (slotted o)) (n.st, b) h.pages) (clears (of-slotted o) (n.st, b))
  alone (other o) = at-access _ (follow (code (other o)) (n.st, b) h.pages) (clears (of_other o) (n.st, b))
  alone (aside o) = at-access _ (follow (code (aside o)) (n.st, b) h.pages) (clears (of-aside o) (n.st, b))

  besides : (m : Machine Answer Pages) (o : tree.Out Bk Answer) → Resets (during_interrupt calls book.driver m o)
  besides m (ends z t) k = absurd (true≢false (sym k))
  besides m (asks q t f) k = absurd (true≢false (sym k))

  begun_by_lem : (o : Op) (w : Pending Answer Pages) → Resets (begun calls book.driver (fed book a) o n w b)
  begun_by_lem o idle = alone o
  begun_by_lem o (busy i q f) = either (cond i (calls.aside o) false) _ _
      (besides (lent_to calls book.driver n b) (run book_ops (code o) (n.st, b))) (λ k. absurd (true≢false (sym k)))

  begins : (o : Op) → Resets (book_step a (begin o) n b)
  begins o = either (cond (calls.slots o) (misfit calls book.driver n.st b) false) _ _
      (λ k. absurd (true≢false (sym k))) (begun_by_lem o n.under_way_lem)

pub bus_reset_empties : (c : Call Config Op) (a : Ans Answer) (v : ℕ) (n : Machine Answer Pages) → Fine n → (b : Buf)
    → blank_a a ≡ blank_a (book_step a c n b).0
    → c ≡ continue v → in_interrupt n.under_way_lem ≡ false → releasing a ≡ true → (dir : Dir) (e : ℕ)
    → Emptied dir e n.st (book_step a c n b).1.st
bus_reset_empties c a v n h b s p i g dir e =
    subst (λ (c : Call Config Op). blank_a a ≡ blank_a (book_step a c n b).0
    → Emptied dir e n.st (book_step a c n b).1.st) (sym p)
    (λ s. fits_by a n h b dir e v (misfit calls book.driver n.st b) i
    (releasing-same (book_step a (continue v) n b).0 a (sym s) ∙ g)) s

pub begin_empties : (c : Call Config Op) (a : Ans Answer) (o : Op) (n : Machine Answer Pages) → Fine n → (b : Buf)
    → blank_a a ≡ blank_a (book_step a c n b).0 → c ≡ begin o → releasing a ≡ true
    → (dir : Dir) (e : ℕ) → Emptied dir e n.st (book_step a c n b).1.st
begin_empties c a o n h b s p g dir e = subst
    (λ (c : Call Config Op). blank_a a ≡ blank_a (book_step a c n b).0 → Emptied dir e n.st (book_step a c n b).1.st)
    (sym p)
    (λ s. begins a n h b dir e o (releasing-same (book_step a (begin o) n b).0 a (sym s) ∙ g)) s
