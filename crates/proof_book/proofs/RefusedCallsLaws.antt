-- A call that any row refuses, and a poll that is not done yet, leave the pages of all endpoints
use Rattle.std.specs.Prelude.{Bool, true, false, cond, ◌≡◌, refl, ℕ, zero, suc}
use Rattle.std.proofs.Common.{true≢false, ap, sym, ◌∙◌}
use Rattle.script.specs.Tree as tree
use Rattle.script.specs.Tree.{ends, asks}
use Rattle.script.specs.Script.{run}
use Rattle.script.specs.Answers.{Answer}
use Rattle.script.specs.Calls.{Config, Op, calls, starting, start_row}
use Rattle.script.specs.Machine.{Buf, Call, start, begin, continue, question, Ans, ended, handed, told, blank_a, Pending}
use Rattle.script.specs.Machine.{idle}
use Rattle.script.specs.Machine.{busy, Machine, over, misfit, stay, lent_to, during_interrupt, halt, begun, continued}
use Rattle.script.specs.Machine.{started, fed}
use Rattle.proof_book.specs.Pages.{Pages}
use Rattle.proof_book.specs.Book.{Bk, fresh_pages, book_ops, book}
use Rattle.proof_book.specs.FrontPage.{book_step}
use Rattle.proof_book.proofs.BookCallsLaws.{Fine, WayFine}
use Rattle.proof_book.specs.AnswersLaws.{tells-same}
use Rattle.proof_book.specs.RefusingLaws.{is_no, Same, Tells, t_end, call-tells, start-tells}

abbrev refused : Ans Answer → Bool
refused (ended z) = is_no z
refused (handed q) = false
refused (told k) = false

module _ (a : Ans Answer) (n : Machine Answer Pages) (b : Buf) where
  abbrev RefusedSame : Ans Answer × Machine Answer Pages → Type 0
  RefusedSame y = refused y.0 ≡ true → Same n.st y.1.st

  stays : (m : Machine Answer Pages) (r : ℕ) → m.st ≡ n.st → RefusedSame (stay calls book.driver r m)
  stays m r h k = record { outs = λ e. ap (λ (t : Pages). t.outs e) h; ins = λ e. ap (λ (t : Pages). t.ins e) h }

  halts : (i : Bool) (s : Bk) → s.0 ≡ n.st → (o : tree.Out Bk Answer) → Tells is_no s o
      → RefusedSame (halt calls book.driver (fed book a) i o)
  halts i s g (ends z t) (t_end h) k = let y = h k in
      record {
        outs = λ e. y.outs e ∙ ap (λ (t : Pages). t.outs e) g;
        ins = λ e. y.ins e
            ∙ ap (λ (t : Pages). t.ins e) g;
      }
  halts i s g (asks q t f) h k = absurd (true≢false (sym k))

  besides : (o : tree.Out Bk Answer) → Tells is_no (n.st, b) o
      → RefusedSame (during_interrupt calls book.driver (lent_to calls book.driver n b) o)
  besides (ends z t) (t_end h) k = h k
  besides (asks q t f) h k = stays (lent_to calls book.driver n b) 3 refl k

  either : (u : Bool) (x y : Ans Answer × Machine Answer Pages) → RefusedSame x → RefusedSame y
      → RefusedSame (cond u x y)
  either true x y h g = h
  either false x y h g = g

  begins : (o : Op) (w : Pending Answer Pages) → RefusedSame (begun calls book.driver (fed book a) o n w b)
  begins o idle = halts (calls.irq o) (n.st, b) refl (run book_ops (calls.code o) (n.st, b))
      (call-tells o (n.st, b))
  begins o (busy i q k) = either (cond i (calls.aside o) false) _ _
      (besides (run book_ops (calls.code o) (n.st, b)) (call-tells o (n.st, b)))
      (stays (lent_to calls book.driver n b) 3 refl)

  goes : Fine n → (v : ℕ) (w : Pending Answer Pages) → WayFine w
      → RefusedSame (continued calls book.driver (fed book a) v n w b)
  goes h v idle g = stays (lent_to calls book.driver n b) 15 refl
  goes h v (busy i q k) g = either (over calls q v) _ _ (stays (lent_to calls book.driver n b) 16 refl)
      (halts i (n.st, b) refl (k v (n.st, b)) (g v (n.st, b) h.pages).2)

  starts : (c : Config) (r : ℕ) → RefusedSame (started calls book.driver (fed book a) c r n b)
  starts c zero = halts false (n.st, b) refl (run book_ops (starting c) (fresh_pages c, b))
      (start-tells c (n.st, b) (fresh_pages c, b))
  starts c (suc r) = stays n (suc r) refl

  abbrev NoStart : Call Config Op → Type 0
  NoStart (start c) = Unit {0}
  NoStart (begin o) = Fine n
  NoStart (continue v) = Fine n
  NoStart (question q) = Fine n

  call_leaves : (c : Call Config Op) → NoStart c → RefusedSame (book_step a c n b)
  call_leaves (start c) h = starts c (start_row c b)
  call_leaves (begin o) h = either (cond (calls.slots o) (misfit calls book.driver n.st b) false) _ _
      (stays n 1 refl) (begins o n.under_way_lem)
  call_leaves (continue v) h = either (misfit calls book.driver n.st b) _ _ (stays n 1 refl)
      (goes h v n.under_way_lem h.under_way_lem)
  call_leaves (question q) h = λ k. absurd (true≢false (sym k))

abbrev pub is_start : Call Config Op → Bool
is_start (start c) = true
is_start (begin o) = false
is_start (continue v) = false
is_start (question q) = false

no_start : (a : Ans Answer) (n : Machine Answer Pages) (b : Buf) (c : Call Config Op) → (is_start c ≡ false → Fine n)
    → NoStart a n b c
no_start a n b (start c) h = tt
no_start a n b (begin o) h = h refl
no_start a n b (continue v) h = h refl
no_start a n b (question q) h = h refl

pub refusal_leaves : (c : Call Config Op) (a : Ans Answer) (n : Machine Answer Pages)
    → (is_start c ≡ false → Fine n) → (b : Buf) → blank_a a ≡ blank_a (book_step a c n b).0
    → (z : Answer) → is_no z ≡ true → a ≡ ended z → Same n.st (book_step a c n b).1.st
refusal_leaves c a n h b s z k g = call_leaves a n b c (no_start a n b c h)
    (tells-same refused (λ _ _. refl, λ _ _. refl, λ _. refl) (book_step a c n b).0 a (sym s) ∙ ap refused g ∙ k)
