-- What an interrupt makes of the book from a call's beginning to its next access or its end (request One): at an access
-- at most one packet of an endpoint has joined, with the microframe index that the interrupt keeps; at its end none has
use Rattle.std.specs.Prelude.{Bool, true, false, cond, List, [], ◌∷◌, ◌++◌, ◌⊎◌, ◌≡◌, refl, ℕ, ◌%◌, eqb, ltb, length}
use Rattle.std.proofs.Common.{true≢false, inl, inr, ⊎_elim, ap, sym, ◌∙◌, eqb-true}
use Rattle.std.proofs.lemmas.List.{map-append}
use Rattle.regs.specs.declared.Access.{Access}
use Rattle.regs.specs.declared.Dir.TheVariants.{Out, In}
use Rattle.script.specs.Tree as tree
use Rattle.script.specs.Tree.{ends, asks, bind_out}
use Rattle.script.specs.Cells.{Cell, Val, globals-cell, control-cell, allocator-cell, ep-cell, request-cell, paced_cell}
use Rattle.script.specs.Script.{Script, ret, bind, test, read_then, write_then, wait_then, callback_then, get_then}
use Rattle.script.specs.Script.{put_then, is_then, look_then, fetch_then, act_then, hand_then, row_then, run, Act}
use Rattle.script.specs.Script.{complete, reset_ring, set_enabled_lem, fill, fill0, open_oldest, close_oldest, take_oldest}
use Rattle.script.specs.Script.{enqueue, allocate, allocate0, no_wakes, waken, DmaStep, arrive, send, place, place0}
use Rattle.proof_book.specs.Pages.{Packet, stamps_of, OutPage, Pages, with_out}
use Rattle.proof_book.specs.Book.{Bk, joined, overrun, arrived, packet_b, get_b, put_b, act_b, hand_b, arrive_b}
use Rattle.proof_book.specs.Book.{receiving, book_ops}
use Rattle.proof_book.specs.KeepingLaws.{Says, Gives, ChangesOnly, calm}

-- ---- the book, from a call's beginning to its next access or its end

abbrev pub stamps_b : Pages → ℕ → List ℕ
stamps_b t e = stamps_of (t.outs e).waiting

-- numbers count modulo 16
abbrev pub Even : Pages → Type 0
Even t = (e f : ℕ) → e % 16 ≡ f % 16 → stamps_b t e ≡ stamps_b t f

pub record StampsKept (x : ℕ) (s : Bk) : Type 0 where
  pub entered : s.0.kept.globals.entered ≡ x
  pub even : Even s.0

abbrev pub Stays : Pages → Pages → Type 0
Stays t u = (e : ℕ) → stamps_b u e ≡ stamps_b t e

abbrev pub Joins : ℕ → Pages → Pages → Type 0
Joins x t u = (e : ℕ) → (stamps_b u e ≡ stamps_b t e) ⊎ (stamps_b u e ≡ stamps_b t e ++ (x ∷ []))

-- from s on: at an access one packet of each endpoint at most has joined, with stamp x; at the end none has
pub data Grows (x : ℕ) {A : Type 0} (P : A → Type 0) : Bk → tree.Out Bk A → Type 0 where
  ends_so : {s : Bk} {a : A} {t : Bk} → Stays s.0 t.0 → StampsKept x t → P a → Grows x P s (ends a t)
  asks_so : {s : Bk} {q : Access} {t : Bk} {k : ℕ → Bk → tree.Out Bk A} → Joins x s.0 t.0
      → t.0.kept.globals.entered ≡ x
      → ((v : ℕ) (u : Bk) → StampsKept x u → Grows x P u (k v u)) → Grows x P s (asks q t k)

joins-from : (x : ℕ) (s t u : Pages) → Stays s t → Joins x t u → Joins x s u
joins-from x s t u h j e = ⊎_elim (λ p. inl (p ∙ h e)) (λ p. inr (p ∙ ap (λ (l : List ℕ). l ++ (x ∷ [])) (h e))) (j e)

module _ {x : ℕ} where
  grows-more : {A : Type 0} {P Q : A → Type 0} {s : Bk} {o : tree.Out Bk A} → Grows x P s o → ((a : A) → P a → Q a)
      → Grows x Q s o
  grows-more (ends_so h k p) f = ends_so h k (f _ p)
  grows-more (asks_so h k g) f = asks_so h k (λ v u l. grows-more (g v u l) f)

  pub grows_from : {A : Type 0} {P : A → Type 0} {s t : Bk} {o : tree.Out Bk A} → Stays s.0 t.0 → Grows x P t o
      → Grows x P s o
  grows_from h (ends_so g k p) = ends_so (λ e. g e ∙ h e) k p
  grows_from {s = s} {t = t} h (asks_so {t = u} g k f) = asks_so (joins-from x s.0 t.0 u.0 h g) k f

  pub grows-bind : {A B : Type 0} {P : A → Type 0} {Q : B → Type 0} {s : Bk} {o : tree.Out Bk A}
      {f : A → Bk → tree.Out Bk B}
      → Grows x P s o → ((a : A) (t : Bk) → StampsKept x t → P a → Grows x Q t (f a t)) → Grows x Q s (bind_out o f)
  grows-bind (ends_so h k p) f = grows_from h (f _ _ k p)
  grows-bind (asks_so h k g) f = asks_so h k (λ v u l. grows-bind (g v u l) f)

  grows-cond : {A : Type 0} {P : A → Type 0} {s : Bk} (b : Bool) {o u : tree.Out Bk A} → Grows x P s o → Grows x P s u
      → Grows x P s (cond b o u)
  grows-cond true g h = g
  grows-cond false g h = h

-- ---- the book's operations

get-says : (x : ℕ) (c : Cell) (s : Bk) → StampsKept x s → Says x c (get_b c s)
get-says x globals-cell s k = k.entered
get-says x control-cell s k = tt
get-says x allocator-cell s k = tt
get-says x (ep-cell d e) s k = tt
get-says x (request-cell d e) s k = tt
get-says x (paced_cell e) s k = tt

put_stays : (c : Cell) (v : Val c) (s : Bk) → Stays s.0 (put_b c v s).0
put_stays globals-cell v s e = refl
put_stays control-cell v s e = refl
put_stays allocator-cell v s e = refl
put_stays (ep-cell d f) v s e = refl
put_stays (request-cell d f) v s e = refl
put_stays (paced_cell f) v s e = refl

put_kept : (x : ℕ) (c : Cell) (v : Val c) (s : Bk) → Says x c v → Even s.0
    → (globals-kept : s.0.kept.globals.entered ≡ x) → StampsKept x (put_b c v s)
put_kept x globals-cell v s h z k = record { entered = h; even = z }
put_kept x control-cell v s h z k = record { entered = k; even = z }
put_kept x allocator-cell v s h z k = record { entered = k; even = z }
put_kept x (ep-cell d e) v s h z k = record { entered = k; even = z }
put_kept x (request-cell d e) v s h z k = record { entered = k; even = z }
put_kept x (paced_cell e) v s h z k = record { entered = k; even = z }

act_stays : (q : Act) → calm q ≡ true → (s : Bk) → Stays s.0 (act_b q s).0
act_stays (complete f) h s e = refl
act_stays (reset_ring d f) h s e = absurd (true≢false (sym h))
act_stays (set_enabled_lem d f on) h s e = absurd (true≢false (sym h))
act_stays (fill f bytes) h s e = absurd (true≢false (sym h))
act_stays (fill0 bytes) h s e = absurd (true≢false (sym h))
act_stays (open_oldest f) h s e = absurd (true≢false (sym h))
act_stays (close_oldest f) h s e = absurd (true≢false (sym h))
act_stays (take_oldest f) h s e = absurd (true≢false (sym h))
act_stays (enqueue f bytes) h s e = absurd (true≢false (sym h))
act_stays (allocate d kind address maximum interval) h s e = absurd (true≢false (sym h))
act_stays (allocate0 maximum) h s e = absurd (true≢false (sym h))
act_stays no_wakes h s e = refl
act_stays (waken codes) h s e = refl

act_kept : (x : ℕ) (q : Act) → calm q ≡ true → (s : Bk) → StampsKept x s → StampsKept x (act_b q s)
act_kept x (complete f) h s k = record { entered = k.entered; even = k.even }
act_kept x (reset_ring d f) h s k = absurd (true≢false (sym h))
act_kept x (set_enabled_lem d f on) h s k = absurd (true≢false (sym h))
act_kept x (fill f bytes) h s k = absurd (true≢false (sym h))
act_kept x (fill0 bytes) h s k = absurd (true≢false (sym h))
act_kept x (open_oldest f) h s k = absurd (true≢false (sym h))
act_kept x (close_oldest f) h s k = absurd (true≢false (sym h))
act_kept x (take_oldest f) h s k = absurd (true≢false (sym h))
act_kept x (enqueue f bytes) h s k = absurd (true≢false (sym h))
act_kept x (allocate d kind address maximum interval) h s k = absurd (true≢false (sym h))
act_kept x (allocate0 maximum) h s k = absurd (true≢false (sym h))
act_kept x no_wakes h s k = record { entered = k.entered; even = k.even }
act_kept x (waken codes) h s k = record { entered = k.entered; even = k.even }

abbrev pub Either : ℕ → Pages → ℕ → List ℕ → Type 0
Either x t f l = (l ≡ stamps_b t f) ⊎ (l ≡ stamps_b t f ++ (x ∷ []))

-- an arrival joins with the index that is kept, or is turned away
arrive-joins : (x e n : ℕ) (s : Bk) → StampsKept x s → Joins x s.0 (arrive_b e n s)
arrive-joins x e n s k f = by (receiving s.0 e)
  where
    p : OutPage
    p = s.0.outs e

    q : Packet
    q = packet_b e n s

    rooms : (z : Bool) → f % 16 ≡ e % 16 → Either x s.0 f (stamps_of (cond z (joined p q) (overrun p)).waiting)
    rooms true h = inr (map-append (λ (r : Packet). r.stamp) p.waiting (q ∷ [])
        ∙ ap (λ (y : ℕ). stamps_of p.waiting ++ (y ∷ [])) k.entered
        ∙ ap (λ (l : List ℕ). l ++ (x ∷ [])) (k.even e f (sym h)))
    rooms false h = inl (k.even e f (sym h))

    here : (z : Bool) → eqb (f % 16) (e % 16) ≡ z → Either x s.0 f
        (stamps_of (cond z (arrived p q) (s.0.outs f)).waiting)
    here true h = rooms (ltb (length p.waiting) 15) (eqb-true (f % 16) (e % 16) h)
    here false h = inl refl

    by : (z : Bool) → Either x s.0 f (stamps_b (cond z (with_out s.0 e (arrived p q)) s.0) f)
    by true = here (eqb (f % 16) (e % 16)) refl
    by false = inl refl

hand-joins : (x : ℕ) (q : DmaStep) (s : Bk) → StampsKept x s → Joins x s.0 (hand_b q s).1.0
hand-joins x (arrive e n) s k = arrive-joins x e n s k
hand-joins x (send e) s k = λ f. inl refl
hand-joins x (place Out e) s k = λ f. inl refl
hand-joins x (place In e) s k = λ f. inl refl
hand-joins x place0 s k = λ f. inl refl

hand-entered : (q : DmaStep) (s : Bk) → (hand_b q s).1.0.kept.globals.entered ≡ s.0.kept.globals.entered
hand-entered (arrive e n) s = by (receiving s.0 e)
  where
    by : (z : Bool) → (cond z (with_out s.0 e (arrived (s.0.outs e) (packet_b e n s))) s.0).kept.globals.entered
        ≡ s.0.kept.globals.entered
    by true = refl
    by false = refl
hand-entered (send e) s = refl
hand-entered (place Out e) s = refl
hand-entered (place In e) s = refl
hand-entered place0 s = refl

-- ---- an interrupt's script

pub grows-run : {i : Bool} {A : Type 0} (x : ℕ) (p : Script i A) → ChangesOnly calm x p → (s : Bk) → StampsKept x s
    → Grows x (Gives x p) s (run book_ops p s)
grows-run x (ret a) h s k = ends_so (λ e. refl) k refl
grows-run x (bind p f) h s k = grows-bind (grows-run x p h.0 s k)
    (λ a t l g. grows-more (grows-run x (f a) (h.1 a g) t l) (λ b w. tt))
grows-run x (test b p q) h s k = grows-cond b (grows-more (grows-run x p h.0 s k) (λ a w. tt))
    (grows-more (grows-run x q h.1 s k) (λ a w. tt))
grows-run x (read_then r e f) h s k = asks_so (λ e. inl refl) k.entered
    (λ v t l. grows-more (grows-run x (f v) (h v) t l) (λ a w. tt))
grows-run x (write_then r e v p) h s k = asks_so (λ e. inl refl) k.entered
    (λ _ t l. grows-more (grows-run x p h t l) (λ a w. tt))
grows-run x (wait_then n p) h s k = asks_so (λ e. inl refl) k.entered
    (λ _ t l. grows-more (grows-run x p h t l) (λ a w. tt))
grows-run x (callback_then p) h s k = asks_so (λ e. inl refl) k.entered
    (λ _ t l. grows-more (grows-run x p h t l) (λ a w. tt))
grows-run x (get_then c f) h s k =
    let g = get-says x c s k in
    grows-more (grows-run x (f (get_b c s)) (h (get_b c s) g) s k) (λ a w. (get_b c s, g, w))
grows-run x (put_then c v p) h s k =
    grows-more (grows_from (put_stays c v s) (grows-run x p h.1 (put_b c v s)
    (put_kept x c v s h.0 k.even k.entered))) (λ a w. tt)
grows-run x (is_then q f) h s k = grows-more (grows-run x (f (book_ops.is q s)) (h (book_ops.is q s)) s k) (λ a w. tt)
grows-run x (look_then q f) h s k = grows-more (grows-run x (f (book_ops.look q s)) (h (book_ops.look q s)) s k)
    (λ a w. tt)
grows-run x (fetch_then q f) h s k = grows-more (grows-run x (f (book_ops.fetch q s)) (h (book_ops.fetch q s)) s k)
    (λ a w. tt)
grows-run x (act_then q p) h s k = grows-more (grows_from (act_stays q h.0 s)
    (grows-run x p h.1 (act_b q s) (act_kept x q h.0 s k))) (λ a w. tt)
grows-run x (hand_then q p) h s k = asks_so (hand-joins x q s k) (hand-entered q s ∙ k.entered)
    (λ _ t l. grows-more (grows-run x p h t l) (λ a w. tt))
grows-run x (row_then g p) h s k = absurd h
