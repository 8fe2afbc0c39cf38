-- The begin of an advance changes no page of an IN: its completions come after its first access
use Rattle.std.specs.Prelude.{Bool, true, false, List, ◌≡◌, refl, ℕ}
use Rattle.std.proofs.Common.{subst, sym, ◌∙◌}
use Rattle.regs.specs.declared.Reg.{Reg}
use Rattle.script.specs.Tree as tree
use Rattle.script.specs.Tree.{ends, asks, bind_out}
use Rattle.script.specs.Cells.{Cell, Val}
use Rattle.script.specs.Script.{Script, run, ret, bind, test, read_then, get_then, put_then, fetch_then, act_then}
use Rattle.script.specs.Script.{Fetch, Act}
use Rattle.script.specs.Answers.{Answer}
use Rattle.script.specs.Calls.{Config, Op, other, Advance, calls, other_code}
use Rattle.script.specs.Machine.{Buf, Call, begin, Ans, handed, blank_a, Pending, idle, busy, Machine, halt, begun, fed}
use Rattle.proof_book.specs.Pages.{Pages}
use Rattle.proof_book.specs.Book.{Bk, put_b, act_b, book_ops, book}
use Rattle.proof_book.specs.FrontPage.{book_step}
use Rattle.proof_book.specs.BookDecidesLaws.{sends_to}
use Rattle.proof_book.specs.RefusingLaws.{Same, same_then, leaves_pages, put_same, act-same}
use Rattle.proof_book.specs.AnswersLaws.{sending-same, fed-in}

-- a script that leaves the pages until its first access, a reading
data Waits : (A : Type 0) → Script false A → Type 1 where
  w_ret : {A : Type 0} {a : A} → Waits A (ret a)
  w_reads : {A B : Type 0} {r : Reg} {e : ℕ} {k : ℕ → Script false B} {f : B → Script false A}
      → Waits A (bind (read_then r e k) f)
  w_bind : {A B : Type 0} {p : Script false B} {f : B → Script false A} → Waits B p → ((b : B) → Waits A (f b))
      → Waits A (bind p f)
  w_test : {A : Type 0} {b : Bool} {p q : Script false A} → Waits A p → Waits A q → Waits A (test b p q)
  w_get : {A : Type 0} {c : Cell} {k : Val c → Script false A} → ((v : Val c) → Waits A (k v)) → Waits A (get_then c k)
  w_put : {A : Type 0} {c : Cell} {v : Val c} {p : Script false A} → Waits A p → Waits A (put_then c v p)
  w_fetch : {A : Type 0} {q : Fetch} {k : List ℕ → Script false A} → ((l : List ℕ) → Waits A (k l))
      → Waits A (fetch_then q k)
  w_act : {A : Type 0} {q : Act} {p : Script false A} → leaves_pages q ≡ true → Waits A p → Waits A (act_then q p)

ruleset waiting = (w_ret, w_reads, w_bind, w_test, w_get, w_put, w_fetch, w_act)

-- at its end or first access, which is no transmit address
abbrev First : {A : Type 0} → Bk → tree.Out Bk A → Type 0
First s (ends a t) = Same s.0 t.0
First s (asks q t k) = Same s.0 t.0 × ((e : ℕ) → sends_to q e ≡ false)

first-after : {A : Type 0} (s t : Bk) (o : tree.Out Bk A) → Same s.0 t.0 → First t o → First s o
first-after s t (ends a u) h k = same_then h k
first-after s t (asks q u f) h k = (same_then h k.0, k.1)

first-bind : {A B : Type 0} (s : Bk) (o : tree.Out Bk B) (f : B → Bk → tree.Out Bk A) → First s o
    → ((b : B) (t : Bk) → First t (f b t))
    → First s (bind_out o f)
first-bind s (ends b t) f h g = first-after s t (f b t) h (g b t)
first-bind s (asks q t k) f h g = h

waits-run : {A : Type 0} {p : Script false A} → Waits A p → (s : Bk) → First s (run book_ops p s)
waits-run w_ret s = record { outs = λ e. refl; ins = λ e. refl }
waits-run w_reads s = (record { outs = λ e. refl; ins = λ e. refl }, λ e. refl)
waits-run (w_bind {p = p} {f = f} h g) s = first-bind s (run book_ops p s) (λ b t. run book_ops (f b) t) (waits-run h s)
    (λ b t. waits-run (g b) t)
waits-run (w_test {b = true} h g) s = waits-run h s
waits-run (w_test {b = false} h g) s = waits-run g s
waits-run (w_get h) s = waits-run (h _) s
waits-run (w_put {c = c} {v = v} {p = p} h) s = first-after s (put_b c v s) (run book_ops p (put_b c v s)) (put_same c v s)
    (waits-run h (put_b c v s))
waits-run (w_fetch h) s = waits-run (h _) s
waits-run (w_act {q = q} {p = p} m h) s = first-after s (act_b q s) (run book_ops p (act_b q s)) (act-same q m s)
    (waits-run h (act_b q s))

of-advance : (e : ℕ) → Waits Answer (other_code (Advance e))
of-advance e = search waiting depth 40

module _ (a : Ans Answer) (e f : ℕ) (n : Machine Answer Pages) (b : Buf) where
  abbrev PageStays : Ans Answer × Machine Answer Pages → Type 0
  PageStays y = blank_a a ≡ blank_a y.0 → y.1.st.ins f ≡ n.st.ins f

  halted : (o : tree.Out Bk Answer) → First (n.st, b) o → PageStays (halt calls book.driver (fed book a) false o)
  halted (ends z t) h s = h.ins f
  halted (asks q t k) h s = fed-in a t.0 f (sending-same f a (handed q) s ∙ h.1 f) ∙ h.0.ins f

  begun-leaves : (w : Pending Answer Pages) → PageStays
      (begun calls book.driver (fed book a) (other (Advance e)) n w b)
  begun-leaves idle s = halted (run book_ops (other_code (Advance e)) (n.st, b)) (waits-run (of-advance e) (n.st, b)) s
  begun-leaves (busy true q k) s = refl
  begun-leaves (busy false q k) s = refl

pub advance_begins : (c : Call Config Op) (a : Ans Answer) (e f : ℕ) (n : Machine Answer Pages) (b : Buf) → blank_a a
    ≡ blank_a (book_step a c n b).0
    → c ≡ begin (other (Advance e)) → (book_step a c n b).1.st.ins f ≡ n.st.ins f
advance_begins c a e f n b s p = subst (λ (c : Call Config Op). blank_a a ≡ blank_a (book_step a c n b).0
    → (book_step a c n b).1.st.ins f ≡ n.st.ins f) (sym p)
    (begun-leaves a e f n b n.under_way_lem) s
