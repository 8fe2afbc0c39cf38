-- After EP0's start no begin but that of an enabling or disabling of an IN hands out a transmit address that sends
-- nothing; and that is its own
use Rattle.std.specs.Prelude.{Bool, true, false, cond, ◌≡◌, refl, ℕ, ◌%◌, eqb}
use Rattle.std.proofs.Common.{true≢false, ap, subst, sym, ◌∙◌, eqb-true}
use Rattle.regs.specs.declared.Access.TheVariants.{Transmit}
use Rattle.regs.specs.declared.Dir.TheVariants.{In}
use Rattle.script.specs.Tree as tree
use Rattle.script.specs.Tree.{ends, asks}
use Rattle.script.specs.Script.{run}
use Rattle.script.specs.Answers.{Answer, is_allocated}
use Rattle.script.specs.Calls.{Config, Op, interrupt, slotted, other, aside, SetEnabled, Other, calls, code, other_code}
use Rattle.script.specs.Calls.{set_enabled}
use Rattle.script.specs.Machine.{Buf, Call, begin, Ans, handed, blank_a, Pending, idle, busy, Machine, misfit, stay}
use Rattle.script.specs.Machine.{lent_to, during_interrupt}
use Rattle.script.specs.Machine.{halt, begun, fed}
use Rattle.proof_book.specs.Pages.{Pages}
use Rattle.proof_book.specs.Book.{Bk, book_ops, book}
use Rattle.proof_book.specs.FrontPage.{book_step, enabling, SentFrom}
use Rattle.proof_book.specs.Others.{releasing}
use Rattle.proof_book.specs.BookTracksLaws.{ask}
use Rattle.proof_book.specs.InterruptPartsLaws.{of_interrupt}
use Rattle.proof_book.specs.BookDecidesLaws.{sends_to, Watched, watch}
use Rattle.proof_book.specs.AnswersLaws.{sending}
use Rattle.proof_book.proofs.EarlyScriptsLaws.{stage}
use Rattle.proof_book.proofs.OnwardLaws.{Head, heads-run, Goes, plainly, gives, of-slotted, of_other, of-aside}
use Rattle.proof_book.proofs.ContinueCallsLaws.{told_sends, own_address, told_releases, fed_loaded}

module _ (a : Ans Answer) (e : ℕ) (n : Machine Answer Pages) (b : Buf) where
  abbrev Sends : Ans Answer × Machine Answer Pages → Type 0
  Sends y = (x : ℕ) → blank_a a ≡ blank_a y.0 → a ≡ handed (Transmit e x) → SentFrom x (y.1.st.ins e)

  -- no address is handed out
  none : (y : Ans Answer × Machine Answer Pages) → sending y.0 e ≡ false → Sends y
  none y f x s g = absurd (true≢false (sym (own_address a e n x g) ∙ sym (told_sends a e n y.0 s) ∙ f))

  abbrev halts : Bool → tree.Out Bk Answer → Ans Answer × Machine Answer Pages
  halts i o = halt calls book.driver (fed book a) i o

  heads : (o : tree.Out Bk Answer) → Head false false o → Sends (halts false o)
  heads (ends z t) h = none (halts false (ends z t)) refl
  heads (asks q t k) h = λ x s g. fed_loaded a e n t.0 x g
      (h.0 refl refl (told_releases a e n q s (ap releasing g)) e (told_sends a e n (handed q) s
      ∙ own_address a e n x g))

  watched : (o : tree.Out Bk Answer) → Watched (n.st, b) o → Sends (halts true o)
  watched (ends z t) w = none (halts true (ends z t)) refl
  watched (asks q t k) (ask j m f) = λ x s g. fed_loaded a e n t.0 x g
      (m.loads e (told_sends a e n (handed q) s ∙ own_address a e n x g))

  others : (o : Other) → Goes o → stage n.st ≡ 2 → Sends (halts false (run book_ops (other_code o) (n.st, b)))
  others o (plainly h) m = heads (run book_ops (other_code o) (n.st, b)) (heads-run h (n.st, b))
  others o (gives h x refused) m = subst (λ (y : tree.Out Bk Answer). Sends (halts false y))
      (sym (refused (n.st, b) m))
      (none (halts false (ends _ (n.st, b))) refl)

  alone : (o : Op) → enabling o ≡ false → stage n.st ≡ 2
      → Sends (halts (calls.irq o) (run book_ops (code o) (n.st, b)))
  alone interrupt f m = watched (run book_ops (code interrupt) (n.st, b)) (watch of_interrupt (n.st, b))
  alone (slotted o) f m = heads (run book_ops (code (slotted o)) (n.st, b))
      (subst (λ (y : Bool). Head y false (run book_ops (code (slotted o)) (n.st, b))) f
      (heads-run (of-slotted o) (n.st, b)))
  alone (other o) f m = others o (of_other o) m
  alone (aside o) f m = heads (run book_ops (code (aside o)) (n.st, b)) (heads-run (of-aside o) (n.st, b))

  besides : (m : Machine Answer Pages) (o : tree.Out Bk Answer) → Sends (during_interrupt calls book.driver m o)
  besides m (ends z t) = none (during_interrupt calls book.driver m (ends z t)) refl
  besides m (asks q t k) = none (during_interrupt calls book.driver m (asks q t k)) refl

  either : (u : Bool) (x y : Ans Answer × Machine Answer Pages) → Sends x → Sends y → Sends (cond u x y)
  either true x y h k = h
  either false x y h k = k

  begins : (o : Op) → enabling o ≡ false → stage n.st ≡ 2 → (w : Pending Answer Pages)
      → Sends (begun calls book.driver (fed book a) o n w b)
  begins o f m idle = alone o f m
  begins o f m (busy i q k) = either (cond i (calls.aside o) false) _ _
      (besides (lent_to calls book.driver n b) (run book_ops (code o) (n.st, b)))
      (none (stay calls book.driver 3 (lent_to calls book.driver n b)) refl)

pub begin_sends : (c : Call Config Op) (a : Ans Answer) (o : Op) (e x : ℕ) (n : Machine Answer Pages) (b : Buf)
    → blank_a a ≡ blank_a (book_step a c n b).0
    → c ≡ begin o → enabling o ≡ false → stage n.st ≡ 2 → a ≡ handed (Transmit e x)
    → SentFrom x ((book_step a c n b).1.st.ins e)
begin_sends c a o e x n b s p f m g = subst
    (λ (c : Call Config Op). blank_a a ≡ blank_a (book_step a c n b).0 → SentFrom x ((book_step a c n b).1.st.ins e))
    (sym p)
    (λ s. either a e n b (cond (calls.slots o) (misfit calls book.driver n.st b) false) _ _
    (none a e n b (stay calls book.driver 1 n) refl) (begins a e n b o f m n.under_way_lem) x s g) s

-- ---- an IN that is enabled or disabled

-- at its first access
abbrev Own : ℕ → tree.Out Bk Answer → Type 0
Own f (ends z t) = Unit {0}
Own f (asks q t k) = (e : ℕ) → sends_to q e ≡ true → e % 16 ≡ f % 16

own-test : (f : ℕ) (u : Bool) (x y : tree.Out Bk Answer) → Own f x → Own f y → Own f (cond u x y)
own-test f true x y h k = h
own-test f false x y h k = k

own_first : (f : ℕ) (on : Bool) (t : Pages) (b : Buf) → Own f (run book_ops (set_enabled In f on) (t, b))
own_first f on t b = own-test f (eqb (stage t) 2) _ _ (own-test f (is_allocated t.kept.allocator In f) _ _
    (λ e h. eqb-true (e % 16) (f % 16) h) tt) tt

module _ (a : Ans Answer) (e f : ℕ) (on : Bool) (n : Machine Answer Pages) (b : Buf) where
  abbrev Places : Ans Answer × Machine Answer Pages → Type 0
  Places y = sending y.0 e ≡ true → e % 16 ≡ f % 16

  placed : (o : tree.Out Bk Answer) → Own f o → Places (halt calls book.driver (fed book a) false o)
  placed (ends z t) h k = absurd (true≢false (sym k))
  placed (asks q t k) h l = h e l

  places : (w : Pending Answer Pages) → Places (begun calls book.driver (fed book a) (slotted (SetEnabled In f on)) n
      w b)
  places idle k = placed (run book_ops (set_enabled In f on) (n.st, b)) (own_first f on n.st b) k
  places (busy true q g) k = absurd (true≢false (sym k))
  places (busy false q g) k = absurd (true≢false (sym k))

  places-fit : (u : Bool) → Places
      (cond u (stay calls book.driver 1 n) (begun calls book.driver (fed book a) (slotted (SetEnabled In f on)) n
      n.under_way_lem b))
  places-fit true k = absurd (true≢false (sym k))
  places-fit false k = places n.under_way_lem k

pub enabling_places : (c : Call Config Op) (a : Ans Answer) (e f x : ℕ) (on : Bool) (n : Machine Answer Pages) (b : Buf)
    → blank_a a ≡ blank_a (book_step a c n b).0 → c ≡ begin (slotted (SetEnabled In f on)) → a ≡ handed (Transmit e x)
    → e % 16 ≡ f % 16
enabling_places c a e f x on n b s p g = places-fit a e f on n b (misfit calls book.driver n.st b)
    (told_sends a e n (book_step a (begin (slotted (SetEnabled In f on))) n b).0
    (s ∙ ap (λ (c : Call Config Op). blank_a (book_step a c n b).0) p) ∙ own_address a e n x g)
