-- Which row refuses an open, close or queue that rows 1 and 3 do not stop, by the book (aside_row of FrontPage.antt)
use Rattle.std.specs.Prelude.{Bool, true, false, not, cond, ◌&&◌, ◌≡◌, refl, ℕ, eqb, ltb, length}
use Rattle.std.proofs.Common.{true≢false, subst, sym, ◌∙◌}
use Rattle.regs.specs.declared.Dir.TheVariants.{Out, In}
use Rattle.regs.specs.Enables as enables
use Rattle.script.specs.Tree as tree
use Rattle.script.specs.Tree.{ends, asks}
use Rattle.script.specs.Script.{run}
use Rattle.script.specs.Answers.{Answer, is_allocated}
use Rattle.script.specs.Calls.{Config, Op, aside, Aside, Open, Close, Queue, aside_code, calls}
use Rattle.script.specs.Machine.{Buf, Call, begin, Ans, blank_a, Pending, idle, busy, Machine, misfit}
use Rattle.script.specs.Machine.{stay, lent_to, during_interrupt, halt, begun, fed}
use Rattle.proof_book.specs.Pages.{bytes_of, Pages}
use Rattle.proof_book.specs.Book.{Bk, some, iso_of, room_b, book_ops, book}
use Rattle.proof_book.specs.FrontPage.{book_step, refused_by, row_of, aside_row, keeps_out, stopped}
use Rattle.proof_book.specs.AnswersLaws.{tells-same}

-- ---- the script

abbrev RowIs : ℕ → tree.Out Bk Answer → Type 0
RowIs r (ends z s) = refused_by z ≡ r
RowIs r (asks q s k) = ⊥

by_row : (u : Bool) (x y : tree.Out Bk Answer) (r s : ℕ) → (u ≡ true → RowIs r x) → (u ≡ false → RowIs s y)
    → RowIs (cond u r s) (cond u x y)
by_row true x y r s h k = h refl
by_row false x y r s h k = k refl

-- by another test that says the same
by-same : (u w : Bool) (x y : tree.Out Bk Answer) (r s : ℕ) → u ≡ w → RowIs r x → RowIs s y
    → RowIs (cond w r s) (cond u x y)
by-same u w x y r s h p q =
    subst (λ (w : Bool). RowIs (cond w r s) (cond u x y)) h (by_row u x y r s (λ _. p) (λ _. q))

-- where it is isochronous and the bytes fit a slot, there is room where fewer than 2 wait
room-is : (x y z : Bool) → not x ≡ false → z ≡ false → (x && (y && not z)) ≡ y
room-is true true true h k = absurd (true≢false k)
room-is true true false h k = refl
room-is true false z h k = refl
room-is false y z h k = absurd (true≢false h)

script-row : (o : Aside) (t : Pages) (b : Buf) → RowIs (aside_row t o) (run book_ops (aside_code o) (t, b))
script-row (Open e) t b =
    by_row (eqb t.kept.globals.stage 2) _ _ _ _
    (λ _. by_row (is_allocated t.kept.allocator Out e) _ _ _ _
    (λ _. by_row (not (iso_of t Out e)) _ _ _ _ (λ _. refl)
    (λ _. by_row (some (bytes_of (t.outs e).waiting)) _ _ _ _ (λ _. refl) (λ _. refl)))
    (λ _. refl)) (λ _. refl)
script-row (Close e) t b =
    by_row (eqb t.kept.globals.stage 2) _ _ _ _
    (λ _. by_row (is_allocated t.kept.allocator Out e) _ _ _ _
    (λ _. by_row (t.outs e).opened _ _ _ _ (λ _. refl) (λ _. refl))
    (λ _. refl)) (λ _. refl)
script-row (Queue e bytes) t b =
    by_row (eqb t.kept.globals.stage 2) _ _ _ _
    (λ _. by_row (is_allocated t.kept.allocator In e) _ _ _ _
    (λ _. by_row (enables.is_on t.kept.globals.ep_config In e) _ _ _ _
    (λ _. by_row (ltb t.kept.allocator.size (length bytes)) _ _ _ _ (λ _. refl)
    (λ short. by_row (not (iso_of t In e)) _ _ _ _ (λ _. refl)
    (λ iso. by-same (room_b t e (length bytes)) (ltb (length (t.ins e).waiting) 2) _ _ 0 13
    (room-is (iso_of t In e) (ltb (length (t.ins e).waiting) 2)
    (ltb t.kept.allocator.size (length bytes)) iso short)
    refl refl)))
    (λ _. refl)) (λ _. refl)) (λ _. refl)

-- ---- the call

module _ (a : Ans Answer) (o : Aside) (n : Machine Answer Pages) (b : Buf) where
  alone : (r : ℕ) (x : tree.Out Bk Answer) → RowIs r x → row_of (halt calls book.driver (fed book a) false x).0 ≡ r
  alone r (ends z s) h = h
  alone r (asks q s k) h = absurd h

  passing : (r : ℕ) (x : tree.Out Bk Answer) → RowIs r x
      → row_of (during_interrupt calls book.driver (lent_to calls book.driver n b) x).0 ≡ r
  passing r (ends z s) h = h
  passing r (asks q s k) h = absurd h

  begins : (w : Pending Answer Pages) → keeps_out w (aside o) ≡ false
      → row_of (begun calls book.driver (fed book a) (aside o) n w b).0 ≡ aside_row n.st o
  begins idle h = alone (aside_row n.st o) (run book_ops (aside_code o) (n.st, b)) (script-row o n.st b)
  begins (busy true q k) h =
      passing (aside_row n.st o) (run book_ops (aside_code o) (n.st, b)) (script-row o n.st b)
  begins (busy false q k) h = absurd (true≢false h)

  fits : (u : Bool) → cond u true (keeps_out n.under_way_lem (aside o)) ≡ false
      → row_of (cond u (stay calls book.driver 1 n)
      (begun calls book.driver (fed book a) (aside o) n n.under_way_lem b)).0
      ≡ aside_row n.st o
  fits true h = absurd (true≢false h)
  fits false h = begins n.under_way_lem h

row_same : (a z : Ans Answer) → blank_a a ≡ blank_a z → row_of a ≡ row_of z
row_same = tells-same row_of (λ _ _. refl, λ _ _. refl, λ _. refl)

pub asides_rows : (c : Call Config Op) (a : Ans Answer) (n : Machine Answer Pages) (b : Buf)
    → blank_a a ≡ blank_a (book_step a c n b).0 → (o : Aside) → c ≡ begin (aside o) → stopped c n b ≡ false
    → row_of a ≡ aside_row n.st o
asides_rows c a n b same o is on =
    row_same a (book_step a c n b).0 same
    ∙ subst (λ (c : Call Config Op). stopped c n b ≡ false → row_of (book_step a c n b).0 ≡ aside_row n.st o) (sym is)
    (fits a o n b (cond (calls.slots (aside o)) (misfit calls book.driver n.st b) false)) on
