-- Over every script the book's count of those turned away rises at one access alone: a receive address, where 15 wait
use Rattle.std.specs.Prelude.{Bool, true, false, cond, ◌&&◌, List, ◌⊎◌, ◌≡◌, refl, ℕ, zero, suc, ◌+◌, ◌%◌, ◌≤◌, eqb, ltb, length}
use Rattle.std.proofs.Common.{inl, inr, ap, ap₂, sym, ◌∙◌, ltb-false}
use Rattle.regs.specs.declared.Access.{Access}
use Rattle.regs.specs.declared.Access.TheVariants.{Receive}
use Rattle.regs.specs.declared.Dir.{Dir}
use Rattle.regs.specs.declared.Dir.TheVariants.{Out, In}
use Rattle.alloc.specs.declared.Answer as alloc-answer
use Rattle.alloc.specs.declared.Answer.TheVariants as alloc
use Rattle.alloc.specs.Alloc.{allocate_of, allocate_ep0_of}
use Rattle.script.specs.Tree as tree
use Rattle.script.specs.Cells.{Cell, Val, globals-cell, control-cell, allocator-cell, ep-cell, request-cell, paced_cell}
use Rattle.script.specs.Script.{Script, run, rows, ret, bind, test, read_then, write_then, wait_then, callback_then}
use Rattle.script.specs.Script.{get_then, put_then, is_then, look_then, fetch_then, act_then, hand_then, row_then, Act}
use Rattle.script.specs.Script.{complete, reset_ring, set_enabled_lem, fill, fill0, open_oldest, close_oldest, take_oldest}
use Rattle.script.specs.Script.{enqueue, allocate, allocate0, no_wakes, waken, DmaStep, dma_step_ask, arrive, send, place}
use Rattle.script.specs.Script.{place0, Burst, switch, bus_reset_lem, last_of, burst_ask}
use Rattle.proof_book.specs.Pages.{Packet, OutPage, Pages, with_out}
use Rattle.proof_book.specs.Book.{Bk, put_b, act_b, hand_b, row_b, some, waits_on, room_b, iso_of, iso_out, receiving}
use Rattle.proof_book.specs.Book.{empty_out, open_out, read_out, slot_told, arrived, joined, overrun, packet_b, given_b}
use Rattle.proof_book.specs.Book.{started_b, switch_b, bus_reset_b, book_ops}
use Rattle.proof_book.specs.FrameLaws.{at-elim}
use Rattle.proof_book.specs.BookTracksLaws.{Tracks, end, ask, earlier, tracks_bind}

-- numbers count modulo 16
abbrev pub Periodic : Pages → Type 0
Periodic t = (x y : ℕ) → x % 16 ≡ y % 16 → t.outs x ≡ t.outs y

-- the counts stay
abbrev pub Uncounted : Bk → Bk → Type 0
Uncounted s t = (e : ℕ) → (t.0.outs e).lost ≡ (s.0.outs e).lost

-- one is turned away at OUT e
pub record Turned (e : ℕ) (s : Bk) (q : Access) (t : Bk) : Type 0 where
  pub number : ℕ
  pub same : number % 16 ≡ e % 16
  pub access : q ≡ Receive number 0
  pub full : 15 ≤ length (t.0.outs e).waiting
  pub more : (t.0.outs e).lost ≡ (s.0.outs e).lost + 1

abbrev pub Counts : Bk → Access → Bk → Type 0
Counts s q t = (e : ℕ) → ((t.0.outs e).lost ≡ (s.0.outs e).lost) ⊎ Turned e s q t

pub uncounted-then : (s t u : Bk) → Uncounted s t → Uncounted t u → Uncounted s u
uncounted-then s t u h k e = k e ∙ h e

pub counts-then : (s t u : Bk) (q : Access) → Uncounted s t → Counts t q u → Counts s q u
counts-then s t u q h k e = elim (k e) [
  | inl x ↦ inl (x ∙ h e)
  | inr x ↦ inr (record {
    number = x.number;
    same = x.same;
    access = x.access;
    full = x.full;
    more = x.more
        ∙ ap (λ (n : ℕ). n + 1) (h e);
  })
]

-- ---- operations

record LostStays (t t' : Pages) : Type 0 where
  periodic : Periodic t'
  lost : (e : ℕ) → (t'.outs e).lost ≡ (t.outs e).lost

stays : {t : Pages} → Periodic t → LostStays t t
stays i = record { periodic = i; lost = λ e. refl }

either : (u : Bool) {t x y : Pages} → LostStays t x → LostStays t y → LostStays t (cond u x y)
either true h k = h
either false h k = k

either-of : (u : Bool) {t : Pages} (x y : Bk) → LostStays t x.0 → LostStays t y.0 → LostStays t (cond u x y).0
either-of true x y h k = h
either-of false x y h k = k

periodic-with : (t : Pages) (e : ℕ) (p : OutPage) → Periodic t → Periodic (with_out t e p)
periodic-with t e p i x y h = ap₂ (λ (k : ℕ) (q : OutPage). cond (eqb k (e % 16)) p q) h (i x y h)

with-page : (t : Pages) (e : ℕ) (p : OutPage) → p.lost ≡ (t.outs e).lost → Periodic t → LostStays t (with_out t e p)
with-page t e p h i = record {
  periodic = periodic-with t e p i;
  lost = λ x. at-elim (λ (q : OutPage). q.lost ≡ (t.outs x).lost) e x p t.outs
      (λ m. h ∙ ap (λ (q : OutPage). q.lost) (i e x (sym m))) (λ _. refl);
}

puts : (c : Cell) (v : Val c) (s : Bk) → Periodic s.0 → LostStays s.0 (put_b c v s).0
puts globals-cell v s i = record { periodic = i; lost = λ e. refl }
puts control-cell v s i = record { periodic = i; lost = λ e. refl }
puts allocator-cell v s i = stays i
puts (ep-cell d e) v s i = record { periodic = i; lost = λ e. refl }
puts (request-cell d e) v s i = record { periodic = i; lost = λ e. refl }
puts (paced_cell e) v s i = record { periodic = i; lost = λ e. refl }

given : (d : Dir) (kind maximum interval : ℕ) (a : alloc-answer.Answer) (t : Pages) → Periodic t
    → LostStays t (given_b d kind maximum interval a t)
given d kind maximum interval (alloc.Refused n) t i = stays i
given Out kind maximum interval (alloc.Given e base slots) t i =
    let k = with-page t e (slot_told (empty_out (t.outs e)) base) refl i in
    record { periodic = k.periodic; lost = k.lost }
given In kind maximum interval (alloc.Given e base slots) t i = record { periodic = i; lost = λ e. refl }

started : (maximum : ℕ) (a : alloc-answer.Answer) (t : Pages) → Periodic t → LostStays t (started_b maximum a t)
started maximum (alloc.Refused n) t i = stays i
started maximum (alloc.Given e base slots) t i = record { periodic = i; lost = λ e. refl }

acts : (q : Act) (s : Bk) → Periodic s.0 → LostStays s.0 (act_b q s).0
acts (complete e) s i = record { periodic = i; lost = λ e. refl }
acts (reset_ring Out e) s i = either (iso_of s.0 Out e) (stays i)
    (with-page s.0 e (empty_out (s.0.outs e)) refl i)
acts (reset_ring In e) s i = record { periodic = i; lost = λ e. refl }
acts (set_enabled_lem d e onn) s i = either (iso_out s.0 d e) (stays i) (record { periodic = i; lost = λ e. refl })
acts (fill e bytes) s i = stays i
acts (fill0 bytes) s i = stays i
acts (open_oldest e) s i = either (some (waits_on s.0 Out e)) (with-page s.0 e (open_out (s.0.outs e)) refl i)
    (stays i)
acts (close_oldest e) s i = either (s.0.outs e).opened (with-page s.0 e (read_out (s.0.outs e)) refl i) (stays i)
acts (take_oldest e) s i = either (some (waits_on s.0 Out e)) (with-page s.0 e (read_out (s.0.outs e)) refl i)
    (stays i)
acts (enqueue e bytes) s i = either-of (room_b s.0 e (length bytes)) _ s (record { periodic = i; lost = λ e. refl })
    (stays i)
acts (allocate d kind address maximum interval) s i =
    let k = given d kind maximum interval (allocate_of s.0.kept.allocator kind address maximum d).answer _ i in
    record { periodic = k.periodic; lost = k.lost }
acts (allocate0 maximum) s i =
    let k = started maximum (allocate_ep0_of s.0.kept.allocator maximum).answer _ i in record
    { periodic = k.periodic; lost = k.lost }
acts no_wakes s i = record { periodic = i; lost = λ e. refl }
acts (waken codes) s i = record { periodic = i; lost = λ e. refl }

arrives_at : (t : Pages) (e : ℕ) (q : Packet) (x : ℕ) → x % 16 ≡ e % 16 → (u : Bool)
    → ltb (length (t.outs e).waiting) 15 ≡ u → Periodic t → (b : List ℕ)
    → let p = cond u (joined (t.outs e) q) (overrun (t.outs e)) in (y : Bk) → y.0.outs x ≡ p
    → (p.lost ≡ (t.outs x).lost) ⊎ Turned x (t, b) (Receive e 0) y
arrives_at t e q x h true m i b y z = inl (ap (λ (p : OutPage). p.lost) (i e x (sym h)))
arrives_at t e q x h false m i b y z = inr (record {
  number = e;
  same = sym h;
  access = refl;
  full = rw z (ltb-false (length (t.outs e).waiting) 15 m);
  more = ap (λ (p : OutPage). p.lost) z ∙ ap (λ (p : OutPage). p.lost + 1) (i e x (sym h));
})

-- an access that changes no page of an OUT endpoint, or leaves the counts
quietly : {s : Bk} {t : Bk} (q : Access) → LostStays s.0 t.0 → Counts s q t
quietly q k e = inl (k.lost e)

hands : (q : DmaStep) (s : Bk) → Periodic s.0 → Periodic (hand_b q s).1.0
    × Counts s (dma_step_ask q (hand_b q s).0) (hand_b q s).1
hands (arrive e n) s i = by (receiving s.0 e)
  where
    page : OutPage
    page = arrived (s.0.outs e) (packet_b e n s)

    counts : Counts s (Receive e 0) (with_out s.0 e page, s.1)
    counts x = elim (at-elim (λ (y : OutPage). ((y ≡ page) × (x % 16 ≡ e % 16)) ⊎ (y ≡ s.0.outs x)) e x page
        s.0.outs (λ h. inl (refl, h)) (λ _. inr refl)) [
          | inl z ↦ elim (arrives_at s.0 e (packet_b e n s) x
              z.1 (ltb (length (s.0.outs e).waiting) 15) refl i s.1 (with_out s.0 e page, s.1) z.0) [
                | inl l ↦ inl (ap (λ (p : OutPage). p.lost) z.0 ∙ l)
                | inr l ↦ inr l
              ]
          | inr z ↦ inl (ap (λ (p : OutPage). p.lost) z)
        ]

    by : (u : Bool) → Periodic (cond u (with_out s.0 e page) s.0)
        × Counts s (Receive e 0) (cond u (with_out s.0 e page) s.0, s.1)
    by true = (periodic-with s.0 e page i, counts)
    by false = (i, λ x. inl refl)
hands (send e) s i = (i, λ x. inl refl)
hands (place Out e) s i = (i, λ x. inl refl)
hands (place In e) s i = (i, λ x. inl refl)
hands place0 s i = (i, λ x. inl refl)

resets : (n : ℕ) (t : Pages) → Periodic t → LostStays t (bus_reset_b n t)
resets zero t i = record { periodic = λ x y h. ap empty_out (i x y h); lost = λ e. refl }
resets (suc zero) t i = stays i
resets (suc (suc zero)) t i = record { periodic = i; lost = λ e. refl }
resets (suc (suc (suc k))) t i = record { periodic = i; lost = λ e. refl }

switches : (e : ℕ) (onn : Bool) (n : ℕ) (t : Pages) → Periodic t → LostStays t (switch_b e onn n t).1
switches e onn zero t i = record { periodic = i; lost = λ e. refl }
switches e onn (suc zero) t i = record { periodic = i; lost = λ e. refl }
switches e onn (suc (suc zero)) t i = stays i
switches e onn (suc (suc (suc k))) t i =
    let m = with-page t e (empty_out (t.outs e)) refl i in
    either (iso_of t Out e && eqb k 15) (record { periodic = m.periodic; lost = m.lost }) (stays i)

row-steps : (g : Burst) (n : ℕ) (s : Bk) → Periodic s.0 → LostStays s.0 (row_b g n s).1.0
row-steps (switch e onn) n s i = switches e onn n s.0 i
row-steps bus_reset_lem n s i = resets n s.0 i

-- ---- every script

abbrev pub Followed : {A : Type 0} → Bk → tree.Out Bk A → Type 0
Followed s o = Tracks Periodic Uncounted Counts s o

follow-rows : {A : Type 0} (g : Burst) (n : ℕ) {k : Bk → tree.Out Bk A}
    → ((t : Bk) → Periodic t.0 → Followed t (k t)) → (s : Bk) → Periodic s.0 → Followed s (rows book_ops g n k s)
follow-rows g zero h s i = let m = row-steps g zero s i in ask m.periodic
    (quietly (burst_ask g zero (row_b g zero s).0) m) (λ v t j. h t j)
follow-rows g (suc n) h s i = let m = row-steps g (suc n) s i in
    ask m.periodic (quietly (burst_ask g (suc n) (row_b g (suc n) s).0) m) (λ v t j. follow-rows g n h t j)

pub follow : {i : Bool} {A : Type 0} (p : Script i A) (s : Bk) → Periodic s.0 → Followed s (run book_ops p s)
follow (ret a) s i = end i (λ e. refl)
follow (bind p f) s i = tracks_bind Periodic Uncounted Counts uncounted-then counts-then (follow p s i)
    (λ a t j. follow (f a) t j)
follow (test true p q) s i = follow p s i
follow (test false p q) s i = follow q s i
follow (read_then r e k) s i = ask i (λ x. inl refl) (λ v t j. follow (k v) t j)
follow (write_then r e v p) s i = ask i (λ x. inl refl) (λ _ t j. follow p t j)
follow (wait_then n p) s i = ask i (λ x. inl refl) (λ _ t j. follow p t j)
follow (callback_then p) s i = ask i (λ x. inl refl) (λ _ t j. follow p t j)
follow (get_then c k) s i = follow (k _) s i
follow (put_then c v p) s i = let m = puts c v s i in
    earlier Periodic Uncounted Counts uncounted-then counts-then m.lost (follow p (put_b c v s) m.periodic)
follow (is_then q k) s i = follow (k _) s i
follow (look_then q k) s i = follow (k _) s i
follow (fetch_then q k) s i = follow (k _) s i
follow (act_then q p) s i = let m = acts q s i in earlier Periodic Uncounted Counts uncounted-then counts-then m.lost
    (follow p (act_b q s) m.periodic)
follow (hand_then q p) s i = let m = hands q s i in ask m.0 m.1 (λ _ t j. follow p t j)
follow (row_then g p) s i = follow-rows g (last_of g) (λ t j. follow p t j) s i
