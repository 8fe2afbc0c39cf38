-- What one call makes of the book's count of those turned away, and of an arrival, over every list of calls
use Rattle.std.specs.Prelude.{Bool, true, false, cond, ◌&&◌, List, [], ◌∷◌, ◌≡◌, refl, ℕ, zero, suc, ◌+◌, ◌%◌, ◌≤◌, eqb, ltb, length, take, drop}
use Rattle.std.proofs.Common.{true≢false, inl, inr, ap, ap₂, subst, sym, ◌∙◌, arith, ltb-true, ltb-false}
use Rattle.regs.specs.declared.Access.{Access}
use Rattle.regs.specs.declared.Access.TheVariants.{Read, Write, Receive, Transmit, Ep0Dma, Wait, Callback}
use Rattle.ring.specs.Copies.{bytes_at}
use Rattle.script.specs.Tree as tree
use Rattle.script.specs.Tree.{ends, asks}
use Rattle.script.specs.Script.{run}
use Rattle.script.specs.Answers.{Answer, Refused}
use Rattle.script.specs.Calls.{Config, Op, interrupt, slotted, other, aside, calls, code, starting, start_row}
use Rattle.script.specs.Machine.{Buf, Call, start, begin, continue, question, Ans, ended, handed, told, blank_a, Pending}
use Rattle.script.specs.Machine.{idle, busy, Machine, over, misfit, stay, lent_to, during_interrupt, halt, begun}
use Rattle.script.specs.Machine.{continued}
use Rattle.script.specs.Machine.{started, fed}
use Rattle.proof_book.specs.Pages.{Packet, OutPage, Pages}
use Rattle.proof_book.specs.Book.{Bk, receiving, slot_told, arrived, joined, overrun, fresh_pages, book_ops, book}
use Rattle.proof_book.specs.FrameLaws.{at-elim}
use Rattle.proof_book.specs.FrontPage.{book_step, in_interrupt, Decides, Decided, admitted, turned_away, Counted}
use Rattle.proof_book.specs.FrontPage.{same, one_more, none, addressed}
use Rattle.proof_book.specs.BookTracksLaws.{end, ask}
use Rattle.proof_book.specs.InterruptPartsLaws.{of_interrupt}
use Rattle.proof_book.proofs.BookCountsLaws.{Periodic, Followed, follow}
use Rattle.proof_book.specs.ReleasesLaws.{Clears, clears, of-slotted, of_other, of-aside, of-starting}
use Rattle.proof_book.specs.RefusingLaws.{is_no, Tells, t_ask, call-tells, start-tells}
use Rattle.proof_book.specs.BookDecidesLaws.{is_receive, number_in, Watched, watch}
use Rattle.proof_book.specs.Others.{hands_out}
use Rattle.proof_book.specs.AnswersLaws.{tells-same, addressed-same, fed-elim, fed-out}

-- ---- what is under way

abbrev Watches : Bool → Bk → tree.Out Bk Answer → Type 0
Watches true s o = Watched s o
Watches false s o = Clears s o

abbrev pub WayFine : Pending Answer Pages → Type 0
WayFine idle = Unit {0}
WayFine (busy i q k) = (v : ℕ) (s : Bk) → Periodic s.0 → Followed s (k v s) × Watches i s (k v s)
    × Tells is_no s (k v s)

pub record Fine (n : Machine Answer Pages) : Type 0 where
  pub pages : Periodic n.st
  pub under_way_lem : WayFine n.under_way_lem

-- ---- the access told

fed-periodic : (a : Ans Answer) (t : Pages) → Periodic t → Periodic (fed book a t)
fed-periodic a t i = fed-elim Periodic a t i
    (λ e v _. λ x y h. ap₂ (λ (k : ℕ) (p : OutPage). cond (eqb k (e % 16)) (slot_told (t.outs e) v) p) h (i x y h))
    (λ e v _. i)

-- but for its slot the page stays
pub fed-page : {A : Type 0} (f : OutPage → A) → ((p : OutPage) (a : ℕ) → f (slot_told p a) ≡ f p)
    → (a : Ans Answer) (t : Pages) → Periodic t → (x : ℕ) → f ((fed book a t).outs x) ≡ f (t.outs x)
fed-page f g a t i x = fed-elim (λ u. f (u.outs x) ≡ f (t.outs x)) a t refl
    (λ e v _. at-elim (λ (p : OutPage). f p ≡ f (t.outs x)) e x
    (slot_told (t.outs e) v) t.outs (λ h. g (t.outs e) v ∙ ap f (i e x (sym h))) (λ _. refl))
    (λ e v _. refl)

-- ---- a call's step: from pages t, with the book's answer

pub data Steps (e : ℕ) (t : Pages) : Ans Answer → Pages → Type 0 where
  stays : {a : Ans Answer} {t' : Pages} → (t'.outs e).lost ≡ (t.outs e).lost → Steps e t a t'
  turns : {a : Ans Answer} {t' : Pages} (f : ℕ) → f % 16 ≡ e % 16 → a ≡ handed (Receive f 0)
      → 15 ≤ length (t'.outs e).waiting → (t'.outs e).lost ≡ (t.outs e).lost + 1 → Steps e t a t'

-- ---- an outcome

module _ (a : Ans Answer) where
  -- where the book is told the driver's answer a
  abbrev halts : Bool → tree.Out Bk Answer → Ans Answer × Machine Answer Pages
  halts i o = halt calls book.driver (fed book a) i o

  later : (i : Bool) (s t : Bk) (q : Access) (k : ℕ → Bk → tree.Out Bk Answer) → Watches i s (asks q t k)
      → (v : ℕ) (u : Bk) → Watches i u (k v u)
  later true s t q k (ask j m h) v u = h v u tt
  later false s t q k (ask j m h) v u = h v u tt

  halted-fine : (i : Bool) (s r : Bk) (o : tree.Out Bk Answer) → Followed s o → Watches i s o → Tells is_no r o
      → Fine (halts i o).1
  halted-fine i s r (ends z t) (end j q) w x = record { pages = j; under_way_lem = tt }
  halted-fine i s r (asks q t k) (ask j m g) w (t_ask x)
      = record { pages = fed-periodic a t.0 j; under_way_lem = λ v u l. (g v u l, later i s t q k w v u, x v u) }

  halted-steps : (e : ℕ) (i : Bool) (s : Bk) (o : tree.Out Bk Answer) → Followed s o
      → Steps e s.0 (halts i o).0 (halts i o).1.st
  halted-steps e i s (ends z t) (end j q) = stays (q e)
  halted-steps e i s (asks q t k) (ask j m g) = elim (m e) [
    | inl x ↦ stays (fed-page (λ p. p.lost) (λ p x. refl) a t.0 j e ∙ x)
    | inr x ↦
        let l : 15 ≤ length ((fed book a t.0).outs e).waiting =
        omega (
          arith,
          x.full,
          ap (λ (w : List Packet). length w)
              (fed-page (λ p. p.waiting) (λ p x. refl) a t.0 j e),
        ) in
        turns x.number x.same (ap handed x.access) l
        (fed-page (λ p. p.lost) (λ p x. refl) a t.0 j e ∙ x.more)
  ]

  watched : (o : Op) (s : Bk) → Watches (calls.irq o) s (run book_ops (calls.code o) s)
  watched interrupt s = watch of_interrupt s
  watched (slotted o) s = clears (of-slotted o) s
  watched (other o) s = clears (of_other o) s
  watched (aside o) s = clears (of-aside o) s

  lent-fine : {n : Machine Answer Pages} (b : Buf) → Fine n → Fine (lent_to calls book.driver n b)
  lent-fine b h = record { pages = h.pages; under_way_lem = h.under_way_lem }

  beside-fine : {n : Machine Answer Pages} → Fine n → {s : Bk} (o : tree.Out Bk Answer) → Followed s o
      → Fine (during_interrupt calls book.driver n o).1
  beside-fine h (ends z t) (end j q) = record { pages = j; under_way_lem = h.under_way_lem }
  beside-fine h (asks q t k) (ask j m g) = h

  beside-steps : (e : ℕ) (n : Machine Answer Pages) {s : Bk} → s.0 ≡ n.st → (o : tree.Out Bk Answer)
      → Followed s o → Steps e n.st (during_interrupt calls book.driver n o).0
      (during_interrupt calls book.driver n o).1.st
  beside-steps e n h (ends z t) (end j q) = stays (q e ∙ ap (λ (t : Pages). (t.outs e).lost) h)
  beside-steps e n h (asks q t k) (ask j m g) = stays refl

  -- ---- a call

  either-fine : (u : Bool) (x y : Ans Answer × Machine Answer Pages) → Fine x.1 → Fine y.1 → Fine (cond u x y).1
  either-fine true x y p q = p
  either-fine false x y p q = q

  either-steps : (e : ℕ) (t : Pages) (u : Bool) (x y : Ans Answer × Machine Answer Pages)
      → Steps e t x.0 x.1.st → Steps e t y.0 y.1.st → Steps e t (cond u x y).0 (cond u x y).1.st
  either-steps e t true x y p q = p
  either-steps e t false x y p q = q

  begun-fine : (o : Op) (n : Machine Answer Pages) → Fine n → (w : Pending Answer Pages) (b : Buf)
      → Fine (begun calls book.driver (fed book a) o n w b).1
  begun-fine o n h idle b = halted-fine (calls.irq o) (n.st, b) (n.st, b) (run book_ops (calls.code o) (n.st, b))
      (follow (calls.code o) (n.st, b) h.pages) (watched o (n.st, b)) (call-tells o (n.st, b))
  begun-fine o n h (busy i q k) b = either-fine (cond i (calls.aside o) false) _ _
      (beside-fine (lent-fine b h) (run book_ops (calls.code o) (n.st, b))
      (follow (calls.code o) (n.st, b) h.pages)) (lent-fine b h)

  begun-steps : (e : ℕ) (o : Op) (n : Machine Answer Pages) → Fine n → (w : Pending Answer Pages) (b : Buf)
      → let y = begun calls book.driver (fed book a) o n w b in Steps e n.st y.0 y.1.st
  begun-steps e o n h idle b = halted-steps e (calls.irq o) (n.st, b) (run book_ops (calls.code o) (n.st, b))
      (follow (calls.code o) (n.st, b) h.pages)
  begun-steps e o n h (busy i q k) b = either-steps e n.st (cond i (calls.aside o) false) _ _
      (beside-steps e (lent_to calls book.driver n b) refl
      (run book_ops (calls.code o) (n.st, b)) (follow (calls.code o) (n.st, b) h.pages)) (stays refl)

  continued-fine : (v : ℕ) (n : Machine Answer Pages) → Fine n
      → (w : Pending Answer Pages) → WayFine w → (b : Buf)
      → Fine (continued calls book.driver (fed book a) v n w b).1
  continued-fine v n h idle g b = lent-fine b h
  continued-fine v n h (busy i q k) g b = either-fine (over calls q v) _ _ (lent-fine b h)
      (halted-fine i (n.st, b) (n.st, b) (k v (n.st, b)) (g v (n.st, b) h.pages).0
      (g v (n.st, b) h.pages).1 (g v (n.st, b) h.pages).2)

  continued-steps : (e v : ℕ) (n : Machine Answer Pages) → Fine n → (w : Pending Answer Pages) → WayFine w → (b : Buf)
      → let y = continued calls book.driver (fed book a) v n w b in Steps e n.st y.0 y.1.st
  continued-steps e v n h idle g b = stays refl
  continued-steps e v n h (busy i q k) g b = either-steps e n.st (over calls q v) _ _ (stays refl)
      (halted-steps e i (n.st, b) (k v (n.st, b)) (g v (n.st, b) h.pages).0)

  fresh-periodic : (c : Config) → Periodic (fresh_pages c)
  fresh-periodic c x y h = refl

  pub start_fine : (c : Config) (n : Machine Answer Pages) (b : Buf)
      → Fine (started calls book.driver (fed book a) c zero n b).1
  start_fine c n b = halted-fine false (fresh_pages c, b) (fresh_pages c, b) (run book_ops (starting c) (fresh_pages c, b))
      (follow (starting c) (fresh_pages c, b) (fresh-periodic c)) (clears (of-starting c) (fresh_pages c, b))
      (start-tells c (fresh_pages c, b) (fresh_pages c, b))

  started-fine : (c : Config) (r : ℕ) (n : Machine Answer Pages) (b : Buf) → Fine n
      → Fine (started calls book.driver (fed book a) c r n b).1
  started-fine c zero n b h = start_fine c n b
  started-fine c (suc r) n b h = h

  pub start-lost : (c : Config) (n : Machine Answer Pages) (b : Buf) (e : ℕ)
      → ((started calls book.driver (fed book a) c zero n b).1.st.outs e).lost ≡ 0
  start-lost c n b e = fed-page (λ p. p.lost) (λ p x. refl) a _ (fresh-periodic c) e

  pub start-anew : (c : Config) (n : Machine Answer Pages) (b : Buf) (e : ℕ) → let t
      = (started calls book.driver (fed book a) c zero n b).1.st in
      ((t.outs e).lost ≡ 0) × ((t.outs e).waiting ≡ []) × ((t.outs e).opened ≡ false) × ((t.outs e).admitted ≡ [])
      × ((t.outs e).read ≡ [])
  start-anew c n b e = (
    start-lost c n b e,
    fed-page (λ p. p.waiting) (λ p x. refl) a _ (fresh-periodic c) e,
    fed-page (λ p. p.opened) (λ p x. refl) a _ (fresh-periodic c) e,
    fed-page (λ p. p.admitted) (λ p x. refl) a _ (fresh-periodic c) e,
    fed-page (λ p. p.read) (λ p x. refl) a _ (fresh-periodic c) e,
  )

  pub call-fine : (c : Call Config Op) (n : Machine Answer Pages) → Fine n → (b : Buf) → Fine (book_step a c n b).1
  call-fine (start c) n h b = started-fine c (start_row c b) n b h
  call-fine (begin o) n h b = either-fine (cond (calls.slots o) (misfit calls book.driver n.st b) false) _ _ h
      (begun-fine o n h n.under_way_lem b)
  call-fine (continue v) n h b = either-fine (misfit calls book.driver n.st b) _ _ h
      (continued-fine v n h n.under_way_lem h.under_way_lem b)
  call-fine (question q) n h b = lent-fine b h

-- ---- the count

abbrev receives : Ans Answer → Bool
receives a = hands_out is_receive a

abbrev number : Ans Answer → ℕ
number (ended z) = 0
number (handed q) = number_in q
number (told n) = 0

receive-by : (q : Access) → is_receive q ≡ true → (x : ℕ) × (q ≡ Receive (number_in q) x)
receive-by (Read r e) h = absurd (true≢false (sym h))
receive-by (Write r e v) h = absurd (true≢false (sym h))
receive-by (Receive e x) h = (x, refl)
receive-by (Transmit e x) h = absurd (true≢false (sym h))
receive-by (Ep0Dma x) h = absurd (true≢false (sym h))
receive-by (Wait n) h = absurd (true≢false (sym h))
receive-by Callback h = absurd (true≢false (sym h))

received-by : (a : Ans Answer) → receives a ≡ true → (x : ℕ) × (a ≡ handed (Receive (number a) x))
received-by (ended z) h = absurd (true≢false (sym h))
received-by (handed q) h = let z = receive-by q h in (z.0, ap handed z.1)
received-by (told n) h = absurd (true≢false (sym h))

-- an answer that is the same but for its address
pub same-receive : (a y : Ans Answer) (f x : ℕ) → blank_a a ≡ blank_a y → y ≡ handed (Receive f x) → (z : ℕ)
    × (a ≡ handed (Receive f z))
same-receive a y f x h k =
    let r : receives a ≡ true = tells-same receives (λ _ _. refl, λ _ _. refl, λ _. refl) a y h ∙ ap receives k in
    let m : number a ≡ f = tells-same number (λ _ _. refl, λ _ _. refl, λ _. refl) a y h ∙ ap number k in
    let z = received-by a r in
    (z.0, z.1 ∙ ap (λ (f : ℕ). handed (Receive f z.0)) m)

counted-by : (c : Call Config Op) (b : Buf) (a y : Ans Answer) (e : ℕ) (t t' : Pages) → blank_a a ≡ blank_a y
    → length (t'.outs e).waiting ≤ 15 → Steps e t y t' → Counted c b a e (t.outs e) (t'.outs e)
counted-by c b a y e t t' h l (stays k) = same k
counted-by c b a y e t t' h l (turns f m k full more) =
    let z = same-receive a y f 0 h k in
    let n : length (t'.outs e).waiting ≡ 15 = omega (arith, l, full) in
    one_more f z.0 m z.1 n more

module _ (a : Ans Answer) (e : ℕ) (n : Machine Answer Pages) (h : Fine n) (b : Buf) where
  counted_start : (c : Config) (r : ℕ) → start_row c b ≡ r
      → Counted (start c) b a e (n.st.outs e) ((started calls book.driver (fed book a) c r n b).1.st.outs e)
  counted_start c zero k = none c refl k (start-lost a c n b e)
  counted_start c (suc r) k = same refl

  pub counted : (c : Call Config Op) → let y = book_step a c n b in blank_a a ≡ blank_a y.0
      → length (y.1.st.outs e).waiting ≤ 15 → Counted c b a e (n.st.outs e) (y.1.st.outs e)
  counted (start c) s l = counted_start c (start_row c b) refl
  counted (begin o) s l = counted-by (begin o) b a _ e n.st _ s l
      (either-steps a e n.st (cond (calls.slots o) (misfit calls book.driver n.st b) false) _ _ (stays refl)
      (begun-steps a e o n h n.under_way_lem b))
  counted (continue v) s l = counted-by (continue v) b a _ e n.st _ s l
      (either-steps a e n.st (misfit calls book.driver n.st b) _ _ (stays refl)
      (continued-steps a e v n h n.under_way_lem h.under_way_lem b))
  counted (question q) s l = same refl

-- ---- an arrival

-- so many bytes, or as many as there are
take_whole : (n : ℕ) (l : List ℕ) → take n l ≡ take (length (take n l)) l
take_whole zero l = refl
take_whole (suc n) [] = refl
take_whole (suc n) (x ∷ l) = ap (λ (k : List ℕ). x ∷ k) (take_whole n l)

decided-by : (b : Buf) (p p' : OutPage) (q : Packet) (n : ℕ) → length p.waiting ≤ 15 → q.bytes
    ≡ bytes_at b p.slot n
    → p'.waiting ≡ (arrived p q).waiting → p'.admitted ≡ (arrived p q).admitted → p'.read ≡ (arrived p q).read
    → p'.lost ≡ (arrived p q).lost
    → p'.opened ≡ (arrived p q).opened → Decided b p p'
decided-by b p p' q n l h = by (ltb (length p.waiting) 15) refl
  where
    by : (u : Bool) → ltb (length p.waiting) 15 ≡ u → let z = cond u (joined p q) (overrun p) in
        p'.waiting ≡ z.waiting → p'.admitted ≡ z.admitted → p'.read ≡ z.read → p'.lost ≡ z.lost → p'.opened
        ≡ z.opened → Decided b p p'
    by true m w x y z o = admitted q (ltb-true (length p.waiting) 15 m)
        (h ∙ take_whole n (drop p.slot b) ∙ ap (λ (k : List ℕ). bytes_at b p.slot (length k)) (sym h)) w x y z o
    by false m w x y z o =
        let full : length p.waiting ≡ 15 = omega (arith, l, ltb-false (length p.waiting) 15 m) in
        turned_away full w x y z o

module _ (a : Ans Answer) (e x v : ℕ) (n : Machine Answer Pages)
    (h : Fine n) (b : Buf) (l : length (n.st.outs e).waiting ≤ 15) (on : receiving n.st e ≡ true) where
  abbrev Says : Ans Answer × Machine Answer Pages → Type 0
  Says y = y.0 ≡ handed (Receive e x) → Decided b (n.st.outs e) (y.1.st.outs e)

  no_end : {X : Type 0} (z : Answer) → ended z ≡ handed (Receive e x) → X
  no_end z k = absurd (true≢false (sym (ap receives k)))

  outcome : (o : tree.Out Bk Answer) → Followed (n.st, b) o → Watched (n.st, b) o
      → Says (halt calls book.driver (fed book a) true o)
  outcome (ends z t) f w k = no_end z k
  outcome (asks q t g) (ask j m f) (ask j' m' f') k =
      let z = m'.arrives e x (ap access_of k) on in
      decided-by b (n.st.outs e) ((fed book a t.0).outs e) z.1 z.0 l z.2
      (fed-page (λ p. p.waiting) (λ p x. refl) a t.0 j e ∙ ap (λ (p : OutPage). p.waiting) z.3)
      (fed-page (λ p. p.admitted) (λ p x. refl) a t.0 j e ∙ ap (λ (p : OutPage). p.admitted) z.3)
      (fed-page (λ p. p.read) (λ p x. refl) a t.0 j e ∙ ap (λ (p : OutPage). p.read) z.3)
      (fed-page (λ p. p.lost) (λ p x. refl) a t.0 j e ∙ ap (λ (p : OutPage). p.lost) z.3)
      (fed-page (λ p. p.opened) (λ p x. refl) a t.0 j e ∙ ap (λ (p : OutPage). p.opened) z.3)
    where
      access_of : Ans Answer → Access
      access_of (ended z) = Callback
      access_of (handed q) = q
      access_of (told n) = Callback

  wide_by : (u : Bool) (y : Ans Answer × Machine Answer Pages) → Says y
      → Says (cond u (stay calls book.driver 16 (lent_to calls book.driver n b)) y)
  wide_by true y s k = no_end (Refused 16) k
  wide_by false y s k = s k

  way_by : (w : Pending Answer Pages) → WayFine w → in_interrupt w ≡ true
      → Says (continued calls book.driver (fed book a) v n w b)
  way_by idle g i k = absurd (true≢false (sym i))
  way_by (busy true q f) g i k = wide_by (over calls q v) _
      (outcome (f v (n.st, b)) (g v (n.st, b) h.pages).0 (g v (n.st, b) h.pages).1) k
  way_by (busy false q f) g i k = absurd (true≢false (sym i))

  fits_by : (u : Bool) → in_interrupt n.under_way_lem ≡ true
      → Says (cond u (stay calls book.driver 1 n) (continued calls book.driver (fed book a) v n n.under_way_lem b))
  fits_by true i k = no_end (Refused 1) k
  fits_by false i k = way_by n.under_way_lem h.under_way_lem i k

pub decided : (c : Call Config Op) (a : Ans Answer) (e : ℕ) (n : Machine Answer Pages) → Fine n → (b : Buf) → let y
    = book_step a c n b in
    blank_a a ≡ blank_a y.0 → length (n.st.outs e).waiting ≤ 15 → Decides c n a e
    → Decided b (n.st.outs e) (y.1.st.outs e)
decided c a e n h b s l d = subst
    (λ (c : Call Config Op). blank_a a ≡ blank_a (book_step a c n b).0
    → Decided b (n.st.outs e) ((book_step a c n b).1.st.outs e)) (sym d.continues)
    (λ s. let z = same-receive (book_step a (continue d.brought) n b).0 a e d.address (sym s) d.hands in
    fits_by a e z.0 d.brought n h b l d.enabled (misfit calls book.driver n.st b) d.interrupt z.1)
    s

-- ---- no arrival

module _ (a : Ans Answer) (e v : ℕ) (n : Machine Answer Pages) (h : Fine n) (b : Buf) (away : addressed a e
    ≡ false) where
  abbrev Stays : Ans Answer × Machine Answer Pages → Type 0
  Stays y = addressed y.0 e ≡ false → y.1.st.outs e ≡ n.st.outs e

  stays_at : (o : tree.Out Bk Answer) → Watched (n.st, b) o → Stays (halt calls book.driver (fed book a) true o)
  stays_at (ends z t) (end j q) k = q.rest.outs e
  stays_at (asks q t g) (ask j m f) k = fed-out a t.0 e away
      ∙ m.leaves e (ap (λ (u : Bool). u && receiving n.st e) k)

  stays_wide : (u : Bool) (y : Ans Answer × Machine Answer Pages) → Stays y
      → Stays (cond u (stay calls book.driver 16 (lent_to calls book.driver n b)) y)
  stays_wide true y s k = refl
  stays_wide false y s k = s k

  stays-way : (w : Pending Answer Pages) → WayFine w → in_interrupt w ≡ true
      → Stays (continued calls book.driver (fed book a) v n w b)
  stays-way idle g i k = absurd (true≢false (sym i))
  stays-way (busy true q f) g i k = stays_wide (over calls q v) _
      (stays_at (f v (n.st, b)) (g v (n.st, b) h.pages).1) k
  stays-way (busy false q f) g i k = absurd (true≢false (sym i))

  stays-fits : (u : Bool) → in_interrupt n.under_way_lem ≡ true
      → Stays (cond u (stay calls book.driver 1 n) (continued calls book.driver (fed book a) v n n.under_way_lem
      b))
  stays-fits true i k = refl
  stays-fits false i k = stays-way n.under_way_lem h.under_way_lem i k

pub unmoved : (c : Call Config Op) (a : Ans Answer) (e v : ℕ) (n : Machine Answer Pages) → Fine n → (b : Buf) → blank_a a
    ≡ blank_a (book_step a c n b).0
    → c ≡ continue v → in_interrupt n.under_way_lem ≡ true → addressed a e ≡ false → (book_step a c n b).1.st.outs e
    ≡ n.st.outs e
unmoved c a e v n h b s p i g = subst (λ (c : Call Config Op). blank_a a ≡ blank_a (book_step a c n b).0
    → (book_step a c n b).1.st.outs e ≡ n.st.outs e) (sym p)
    (λ s. stays-fits a e v n h b g (misfit calls book.driver n.st b) i
    (addressed-same e (book_step a (continue v) n b).0 a (sym s) ∙ g)) s
