-- Enabling and disabling by the book: none wait on that endpoint, from the call that hands out the first access on
use Rattle.std.specs.Prelude.{Bool, true, false, cond, ◌&&◌, ◌≡◌, refl, ℕ, ◌%◌, eqb}
use Rattle.std.proofs.Common.{true≢false, ap, subst, sym, ◌∙◌}
use Rattle.regs.specs.declared.Access.{Access}
use Rattle.regs.specs.declared.Dir.{Dir}
use Rattle.regs.specs.declared.Dir.TheVariants.{Out, In}
use Rattle.script.specs.Tree as tree
use Rattle.script.specs.Tree.{ends, asks, bind_out}
use Rattle.script.specs.Script.{Script, ret, bind, test, fetch, row, gathered, no_wakes, switch, run}
use Rattle.script.specs.Statics.{is_on, wake}
use Rattle.script.specs.Answers.{Answer, Refused, End, is_allocated}
use Rattle.script.specs.Bus as bus
use Rattle.script.specs.Calls.{Config, Op, slotted, SetEnabled, set_enabled, calls}
use Rattle.script.specs.Machine.{Buf, Call, begin, Ans, handed, blank_a, Pending, idle, busy, Machine, misfit, stay}
use Rattle.script.specs.Machine.{halt, begun, fed}
use Rattle.proof_book.specs.Pages.{OutPage, InPage, Pages, with_out, with_in}
use Rattle.proof_book.specs.Book.{Bk, iso_of, empty_out, empty_in, placed_in, source_told, act_b, book_ops, book}
use Rattle.proof_book.specs.FrameLaws.{at-elim, out-same, in-same}
use Rattle.proof_book.specs.FrontPage.{book_step, EmptiedOut, EmptiedIn, Emptied}
use Rattle.proof_book.specs.BookTracksLaws.{ask}
use Rattle.proof_book.proofs.BookCountsLaws.{Periodic, Followed, follow}
use Rattle.proof_book.proofs.BookCallsLaws.{Fine, fed-page}
use Rattle.proof_book.specs.AnswersLaws.{is_handed, handed-same, fed-elim}

-- ---- an outcome that asks

abbrev Now : {A : Type 0} → (Pages → Type 0) → tree.Out Bk A → Type 0
Now Q (ends a s) = ⊥
Now Q (asks q s k) = Q s.0

now-bind : {A B : Type 0} (Q : Pages → Type 0) (p : Script false A) (f : A → Script false B) (s : Bk)
    → Now Q (run book_ops p s) → Now Q (run book_ops (bind p f) s)
now-bind Q p f s = by (run book_ops p s)
  where
    by : (o : tree.Out Bk _) → Now Q o → Now Q (bind_out o (λ a t. run book_ops (f a) t))
    by (ends a t) h = absurd h
    by (asks q t k) h = h

now-test : {A : Type 0} (Q : Pages → Type 0) (u : Bool) (x y : tree.Out Bk A) → (u ≡ true → Now Q x)
    → (u ≡ false → Now Q y) → Now Q (cond u x y)
now-test Q true x y f g = f refl
now-test Q false x y f g = g refl

-- or ends at once, with a row's refusal
abbrev pub Asks : (Pages → Type 0) → tree.Out Bk Answer → Type 0
Asks Q (ends a s) = (r : ℕ) × (a ≡ Refused r)
Asks Q (asks q s k) = Q s.0

of-now : (Q : Pages → Type 0) (o : tree.Out Bk Answer) → Now Q o → Asks Q o
of-now Q (ends a s) h = absurd h
of-now Q (asks q s k) h = h

asks-test : (Q : Pages → Type 0) (u : Bool) (x y : tree.Out Bk Answer) → (u ≡ true → Asks Q x) → (u ≡ false → Asks Q y)
    → Asks Q (cond u x y)
asks-test Q true x y f g = f refl
asks-test Q false x y f g = g refl

-- ---- the pages at that access, before its address is told

abbrev pub Empty : Dir → ℕ → Pages → Pages → Type 0
Empty Out e t t' = EmptiedOut (t.outs e) (t'.outs e)
Empty In e t t' = (x : ℕ) → x % 16 ≡ e % 16 → EmptiedIn (t'.ins x)

module _ (t : Pages) (e : ℕ) where
  empty-out : (p : OutPage) → p ≡ empty_out (t.outs e) → EmptiedOut (t.outs e) p
  empty-out p h = record {
    waiting = ap (λ (p : OutPage). p.waiting) h;
    opened = ap (λ (p : OutPage). p.opened) h;
    admitted = ap (λ (p : OutPage). p.admitted) h;
    read = ap (λ (p : OutPage). p.read) h;
    lost = ap (λ (p : OutPage). p.lost) h;
  }

  ring_out : (u : Bool) → u ≡ false → (y z : Pages) → z.outs e ≡ empty_out (t.outs e)
      → EmptiedOut (t.outs e) ((cond u y z).outs e)
  ring_out false h y z k = empty-out _ k
  ring_out true h y z k = absurd (true≢false h)

  row_out : (u : Bool) → u ≡ true → (y z : Pages) → z.outs e ≡ empty_out (t.outs e)
      → EmptiedOut (t.outs e) ((cond (u && eqb 15 15) z y).outs e)
  row_out true h y z k = empty-out _ k
  row_out false h y z k = absurd (true≢false (sym h))

  placed-in : EmptiedIn (placed_in ((with_in t e empty_in).ins e))
  placed-in = subst (λ (p : InPage). EmptiedIn (placed_in p))
      (sym (in-same t e empty_in)) (record { waiting = refl; sending = refl; queued = refl; sent = refl; passed = refl })

  ring_in_lem : (x : ℕ) → x % 16 ≡ e % 16 → EmptiedIn ((with_in (with_in t e empty_in) e
      (placed_in ((with_in t e empty_in).ins e))).ins x)
  ring_in_lem x h = at-elim EmptiedIn e x (placed_in ((with_in t e empty_in).ins e)) (with_in t e empty_in).ins (λ _. placed-in)
      (λ n. absurd (n h))

  pub first-access : (dir : Dir) (on : Bool) (b : Buf) → Asks (Empty dir e t) (run book_ops (set_enabled dir e on) (t, b))
  first-access Out on b =
      asks-test Q (eqb t.kept.globals.stage 2) _ _
      (λ _. asks-test Q (is_allocated t.kept.allocator Out e) _ _
      (λ _. of-now Q (run {i = false} book_ops (bind ended-0 gathers) s)
      (now-bind Q ended-0 gathers s (now-bind Q (bus.set_enabled Out e on) (λ _. ret {A = ℕ} 0) s
      (now-bind Q switched (λ _. wake Out e) s
      (now-test Q (is_on (t.kept.plain Out e).iso) (run book_ops (row (switch e on)) s)
      (run {i = false} book_ops (bus.set_enabled_out e on) s)
      (λ h. row_out (iso_of t Out e) h s.0 _ (out-same t e (empty_out (t.outs e))))
      (λ h. ring_out (iso_of t Out e) h s.0 (with_out s.0 e (empty_out (t.outs e)))
      (out-same s.0 e (empty_out (t.outs e)))))))))
      (λ _. (5, refl)))
      (λ _. (4, refl))
    where
      Q : Pages → Type 0
      Q = Empty Out e t

      s : Bk
      s = act_b no_wakes (t, b)

      ended-0 : Script false ℕ
      ended-0 = bind (bus.set_enabled Out e on) (λ _. ret {A = ℕ} 0)

      gathers : ℕ → Script false Answer
      gathers n = bind (fetch gathered) (λ w. ret (End n w))

      switched : Script false Unit
      switched = test (is_on (t.kept.plain Out e).iso) (row (switch e on)) (bus.set_enabled_out e on)
  first-access In on b = let Q = Empty In e t in
      asks-test Q (eqb t.kept.globals.stage 2) _ _
      (λ _. asks-test Q (is_allocated t.kept.allocator In e) _ _
      (λ _. ring_in_lem)
      (λ _. (5, refl)))
      (λ _. (4, refl))

-- ---- its address told

told_in : (z : Ans Answer) (e : ℕ) (t : Pages) → ((x : ℕ) → x % 16 ≡ e % 16 → EmptiedIn (t.ins x))
    → EmptiedIn ((fed book z t).ins e)
told_in z e t h = fed-elim (λ u. EmptiedIn (u.ins e)) z t (h e refl)
    (λ f x _. h e refl)
    (λ f x _. at-elim EmptiedIn f e (source_told (t.ins f) x) t.ins (λ k. told-source x (h f (sym k)))
    (λ _. h e refl))
  where
    told-source : (x : ℕ) {p : InPage} → EmptiedIn p → EmptiedIn (source_told p x)
    told-source x p = record {
      waiting = p.waiting;
      sending = p.sending;
      queued = p.queued;
      sent = p.sent;
      passed
          = p.passed;
    }

pub told-empty : (z : Ans Answer) (dir : Dir) (e : ℕ) (s t : Pages) → Periodic t → Empty dir e s t
    → Emptied dir e s (fed book z t)
told-empty z Out e s t i h = record {
  waiting = fed-page (λ p. p.waiting) (λ p x. refl) z t i e ∙ h.waiting;
  opened = fed-page (λ p. p.opened) (λ p x. refl) z t i e ∙ h.opened;
  admitted = fed-page (λ p. p.admitted) (λ p x. refl) z t i e ∙ h.admitted;
  read = fed-page (λ p. p.read) (λ p x. refl) z t i e ∙ h.read;
  lost = fed-page (λ p. p.lost) (λ p x. refl) z t i e ∙ h.lost;
}
told-empty z In e s t i h = told_in z e t h

-- ---- the call

module _ (a : Ans Answer) (dir : Dir) (e : ℕ) (on : Bool) (n : Machine Answer Pages) (h : Fine n) (b : Buf) where
  abbrev Resets : Ans Answer × Machine Answer Pages → Type 0
  Resets y = is_handed y.0 ≡ true → Emptied dir e n.st y.1.st

  alone : (o : tree.Out Bk Answer) → Followed (n.st, b) o → Asks (Empty dir e n.st) o
      → Resets (halt calls book.driver (fed book a) false o)
  alone (ends z t) f w k = absurd (true≢false (sym k))
  alone (asks q t g) (ask j m f) w k = told-empty a dir e n.st t.0 j w

  way_by : (w : Pending Answer Pages) → Resets (begun calls book.driver (fed book a) (slotted (SetEnabled dir e on))
      n w b)
  way_by idle k = alone (run book_ops (set_enabled dir e on) (n.st, b))
      (follow (set_enabled dir e on) (n.st, b) h.pages) (first-access n.st e dir on b) k
  way_by (busy true q f) k = absurd (true≢false (sym k))
  way_by (busy false q f) k = absurd (true≢false (sym k))

  fits_by : (u : Bool) → Resets (cond u (stay calls book.driver 1 n)
      (begun calls book.driver (fed book a) (slotted (SetEnabled dir e on)) n n.under_way_lem b))
  fits_by true k = absurd (true≢false (sym k))
  fits_by false k = way_by n.under_way_lem k

pub enabling_resets : (c : Call Config Op) (a : Ans Answer) (dir : Dir) (e : ℕ) (on : Bool) (q : Access)
    (n : Machine Answer Pages)
    → Fine n → (b : Buf) → blank_a a ≡ blank_a (book_step a c n b).0
    → c ≡ begin (slotted (SetEnabled dir e on)) → a ≡ handed q → Emptied dir e n.st (book_step a c n b).1.st
enabling_resets c a dir e on q n h b s p g =
    subst (λ (c : Call Config Op). blank_a a ≡ blank_a (book_step a c n b).0
    → Emptied dir e n.st (book_step a c n b).1.st) (sym p)
    (λ s. fits_by a dir e on n h b (misfit calls book.driver n.st b)
    (handed-same (book_step a (begin (slotted (SetEnabled dir e on))) n b).0 a (sym s) ∙ ap is_handed g)) s
