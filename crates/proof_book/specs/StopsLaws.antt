-- A question and a call that rows 1, 2, 3, 15 or 16 stop: they leave the book
use Rattle.std.specs.Prelude.{Bool, true, false, cond, ◌≡◌, refl, ℕ, zero, suc, eqb}
use Rattle.std.proofs.Common.{true≢false, sym}
use Rattle.script.specs.Answers.{Answer}
use Rattle.script.specs.Calls.{Config, Op, calls, start_row}
use Rattle.script.specs.Machine.{Buf, Call, start, begin, continue, question, Ans, Pending, idle, busy, Machine, over}
use Rattle.script.specs.Machine.{misfit}
use Rattle.script.specs.Machine.{stay, lent_to, begun, continued, started, fed}
use Rattle.proof_book.specs.Pages.{Pages}
use Rattle.proof_book.specs.Book.{book}
use Rattle.proof_book.specs.FrontPage.{book_step, keeps_out, not_going, stopped}

module _ (a : Ans Answer) (n : Machine Answer Pages) (b : Buf) where
  either : (u : Bool) (x y : Ans Answer × Machine Answer Pages) → cond u false true ≡ true → y.1.st ≡ n.st
      → (cond u x y).1.st ≡ n.st
  either true x y h k = absurd (true≢false (sym h))
  either false x y h k = k

  stops : (u : Bool) (x y : Ans Answer × Machine Answer Pages) → u ≡ true → x.1.st ≡ n.st → (cond u x y).1.st ≡ n.st
  stops true x y h k = k
  stops false x y h k = absurd (true≢false (sym h))

  starts : (c : Config) (r : ℕ) → cond (eqb r zero) false true ≡ true
      → (started calls book.driver (fed book a) c r n b).1.st ≡ n.st
  starts c zero h = absurd (true≢false (sym h))
  starts c (suc r) h = refl

  begins : (o : Op) (w : Pending Answer Pages) → keeps_out w o ≡ true
      → (begun calls book.driver (fed book a) o n w b).1.st ≡ n.st
  begins o idle h = absurd (true≢false (sym h))
  begins o (busy i q k) h = either (cond i (calls.aside o) false) _
      (stay calls book.driver 3 (lent_to calls book.driver n b)) h refl

  goes : (v : ℕ) (w : Pending Answer Pages) → not_going w v ≡ true
      → (continued calls book.driver (fed book a) v n w b).1.st ≡ n.st
  goes v idle h = refl
  goes v (busy i q k) h = stops (over calls q v) (stay calls book.driver 16 (lent_to calls book.driver n b)) _ h
      refl

  fits : (u g : Bool) (y : Ans Answer × Machine Answer Pages)
      → cond u true g ≡ true → (g ≡ true → y.1.st ≡ n.st) → (cond u (stay calls book.driver 1 n) y).1.st ≡ n.st
  fits true g y h k = refl
  fits false g y h k = k h

  pub stopped_leaves : (c : Call Config Op) → stopped c n b ≡ true → (book_step a c n b).1.st ≡ n.st
  stopped_leaves (start c) h = starts c (start_row c b) h
  stopped_leaves (begin o) h = fits (cond (calls.slots o) (misfit calls book.driver n.st b) false)
      (keeps_out n.under_way_lem o) _ h (begins o n.under_way_lem)
  stopped_leaves (continue v) h = fits (misfit calls book.driver n.st b) (not_going n.under_way_lem v) _ h
      (goes v n.under_way_lem)
  stopped_leaves (question q) h = refl
