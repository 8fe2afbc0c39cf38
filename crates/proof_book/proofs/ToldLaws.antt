-- What one call tells: an address that is handed out is the book's own, no endpoint that is not enabled gets a packet
-- by it, and the calls that end at once end with their own answers
use Rattle.std.specs.Prelude.{Bool, not, cond, ◌&&◌, List, ◌≡◌, ℕ, zero, suc, ◌%◌, eqb, ltb, length}
use Rattle.std.proofs.Math.Bool.{true, false}
use Rattle.std.proofs.Common.{true≢false, subst, sym, ◌∙◌, arith}
use Rattle.std.proofs.Math.Path.{refl, ap}
use Rattle.bits.specs.Bit.{bit_is_set, both}
use Rattle.regs.specs.declared.Access.TheVariants.{Receive}
use Rattle.regs.specs.declared.Dir.{Dir}
use Rattle.regs.specs.declared.Dir.TheVariants.{Out, In}
use Rattle.regs.specs.Enables as enables
use Rattle.state.specs.declared.Allocator.{Allocator}
use Rattle.state.specs.declared.Globals.{Globals}
use Rattle.state.specs.Driver.{Driver, ep_on}
use Rattle.alloc.specs.Alloc.{allocated_ins}
use Rattle.script.specs.Tree as tree
use Rattle.script.specs.Tree.{ends, asks}
use Rattle.script.specs.Cells.{EpCore}
use Rattle.script.specs.Script.{run}
use Rattle.script.specs.SortsWalks.{among-outs}
use Rattle.script.specs.Simulates.{Phase}
use Rattle.script.specs.Statics.{is_on, iso_outs}
use Rattle.script.specs.Answers.{Answer, Refused, is_allocated}
use Rattle.script.specs.Endpoint.{too_long}
use Rattle.script.specs.Calls.{Config, Op, slotted, aside, Aside, Open, Close, Queue, SetEnabled, PollRead, set_enabled}
use Rattle.script.specs.Calls.{calls, code, starting, start_row}
use Rattle.script.specs.Machine.{Buf, Call, start, begin, continue, question, Ans, ended, handed, told, blank_a, Pending}
use Rattle.script.specs.Machine.{idle}
use Rattle.script.specs.Machine.{busy, Machine, over, misfit, stay, lent_to, during_interrupt, halt, begun, continued}
use Rattle.script.specs.Machine.{started, fed}
use Rattle.proof_book.specs.Pages.{bytes_of, OutPage, Pages}
use Rattle.proof_book.specs.Book.{Bk, some, iso_of, room_b, receiving, slot_told, fresh_pages, book_ops, book}
use Rattle.proof_book.specs.Coupling.{Shape, Coupling}
use Rattle.proof_book.specs.FrameLaws.{out-same}
use Rattle.proof_book.specs.FrontPage.{book_step, in_interrupt, addressed, gives_to, SamePackets, EndsWith, by_row}
use Rattle.proof_book.specs.FrontPage.{opens, closes, queues, waits, gives, AtOnce}
use Rattle.proof_book.specs.BookTracksLaws.{end, ask}
use Rattle.proof_book.proofs.BookCountsLaws.{Followed}
use Rattle.proof_book.specs.BookDecidesLaws.{Watched}
use Rattle.proof_book.proofs.BookCallsLaws.{Fine, WayFine}
use Rattle.proof_book.proofs.ContinueCallsLaws.{WayOnto, GoesOn, fed-packets}
use Rattle.proof_book.proofs.OnwardLaws.{Onto}
use Rattle.proof_book.specs.Others.{releasing}
use Rattle.proof_book.specs.AnswersLaws.{is_handed, handed-same, releasing-same, fed-out}
use Rattle.proof_book.proofs.EnablingLaws.{Asks, Empty, first-access}
use Rattle.proof_book.proofs.PollsWholeLaws.{ended_same}
use Rattle.proof_book.specs.HeldLaws.{receives-is}

-- ---- an enabled isochronous OUT, by the relation of driver and book

module _ {φ : Phase} {b : Buf} {d : Driver} {t : Pages} (R : Coupling φ b d t) (e : ℕ) (on : receiving t e ≡ true) where
  its-flag : is_on (ep_on d Out e).iso ≡ true
  its-flag =
      let g = d.globals in
      let r : bit_is_set (iso_outs g) (e % 16) ≡ true = ap (λ (g : Globals). bit_is_set (iso_outs g) (e % 16)) R.same.globals
      ∙ on in
      sym (R.isos e) ∙ among-outs (λ k. bit_is_set g.iso_out_eps k) g (λ k h s. s) (e % 16) (omega arith) r

  its-number : (u : Bool) → Shape u d.allocator Out (ep_on d Out e) → u ≡ true
  unfolding is_on
  its-number true k = refl
  its-number false k = absurd (true≢false (sym its-flag ∙ ap is_on k.iso))

  pub enabled_is : (iso_of t Out e ≡ true) × (bit_is_set (allocated_ins t.kept.allocator Out) (e % 16) ≡ true)
  enabled_is = (
    sym (ap (λ (p : EpCore). is_on p.iso) (R.same.plain Out e)) ∙ its-flag,
    sym (ap (λ (a : Allocator). bit_is_set (allocated_ins a Out) (e % 16)) R.same.allocator)
        ∙ its-number (bit_is_set (allocated_ins d.allocator Out) (e % 16)) (R.shape Out e),
  )

-- and one that is isochronous and enabled is among them
pub enabled_receives : {φ : Phase} {b : Buf} {d : Driver} {t : Pages} → Coupling φ b d t → (e : ℕ)
    → iso_of t Out e ≡ true
    → enables.is_on t.kept.globals.ep_config Out e ≡ true → receiving t e ≡ true
enabled_receives {d = d} {t = t} R e iso onn =
    let set : bit_is_set d.globals.iso_out_eps (e % 16) ≡ true = R.isos e
    ∙ ap (λ (p : EpCore). is_on p.iso) (R.same.plain Out e) ∙ iso in
    sym (ap (λ (g : Globals). bit_is_set (iso_outs g) (e % 16)) R.same.globals) ∙ receives-is d.globals e
    ∙ ap (λ (u : Bool). both u (enables.is_on d.globals.ep_config Out e)) set
    ∙ ap (λ (g : Globals). enables.is_on g.ep_config Out e) R.same.globals ∙ onn

-- ---- the address that is told

module _ (a : Ans Answer) where
  -- a call that hands out an access leaves pages that were told it
  abbrev Told : Ans Answer × Machine Answer Pages → Type 0
  Told y = is_handed y.0 ≡ true → (t : Pages) × (y.1.st ≡ fed book a t)

  told_at : (i : Bool) (o : tree.Out Bk Answer) → Told (halt calls book.driver (fed book a) i o)
  told_at i (ends z t) k = absurd (true≢false (sym k))
  told_at i (asks q t f) k = (t.0, refl)

  not-told : (r : ℕ) (m : Machine Answer Pages) → Told (stay calls book.driver r m)
  not-told r m k = absurd (true≢false (sym k))

  told-beside : (m : Machine Answer Pages) (o : tree.Out Bk Answer) → Told (during_interrupt calls book.driver m o)
  told-beside m (ends z t) k = absurd (true≢false (sym k))
  told-beside m (asks q t f) k = absurd (true≢false (sym k))

  either-told : (u : Bool) (x y : Ans Answer × Machine Answer Pages) → Told x → Told y → Told (cond u x y)
  either-told true x y p q = p
  either-told false x y p q = q

  told-start : (c : Config) (r : ℕ) (n : Machine Answer Pages) (b : Buf)
      → Told (started calls book.driver (fed book a) c r n b)
  told-start c zero n b = told_at false (run book_ops (starting c) (fresh_pages c, b))
  told-start c (suc r) n b = not-told (suc r) n

  told-begun : (o : Op) (n : Machine Answer Pages) (w : Pending Answer Pages) (b : Buf)
      → Told (begun calls book.driver (fed book a) o n w b)
  told-begun o n idle b = told_at (calls.irq o) (run book_ops (code o) (n.st, b))
  told-begun o n (busy i q k) b = either-told (cond i (calls.aside o) false) _ _
      (told-beside (lent_to calls book.driver n b) (run book_ops (code o) (n.st, b)))
      (not-told 3 (lent_to calls book.driver n b))

  told-continued : (v : ℕ) (n : Machine Answer Pages) (w : Pending Answer Pages) (b : Buf)
      → Told (continued calls book.driver (fed book a) v n w b)
  told-continued v n idle b = not-told 15 (lent_to calls book.driver n b)
  told-continued v n (busy i q k) b = either-told (over calls q v) _ _ (not-told 16 (lent_to calls book.driver n b))
      (told_at i (k v (n.st, b)))

  told-by : (c : Call Config Op) (n : Machine Answer Pages) (b : Buf) → Told (book_step a c n b)
  told-by (start c) n b = told-start c (start_row c b) n b
  told-by (begin o) n b = either-told (cond (calls.slots o) (misfit calls book.driver n.st b) false) _ _
      (not-told 1 n) (told-begun o n n.under_way_lem b)
  told-by (continue v) n b = either-told (misfit calls book.driver n.st b) _ _ (not-told 1 n)
      (told-continued v n n.under_way_lem b)
  told-by (question q) n b = λ k. absurd (true≢false (sym k))

pub slot_told_lem : (c : Call Config Op) (a : Ans Answer) (n : Machine Answer Pages) (b : Buf)
    → blank_a a ≡ blank_a (book_step a c n b).0
    → (e x : ℕ) → a ≡ handed (Receive e x) → ((book_step a c n b).1.st.outs e).slot ≡ x
slot_told_lem c a n b s e x g =
    let z = told-by a c n b (handed-same (book_step a c n b).0 a (sym s) ∙ ap is_handed g) in
    ap (λ (t : Pages). (t.outs e).slot) z.1 ∙ ap (λ (y : Ans Answer). ((fed book y z.0).outs e).slot) g
    ∙ ap (λ (p : OutPage). p.slot) (out-same z.0 e (slot_told (z.0.outs e) x))

-- ---- at a receive address of an OUT that is not enabled as isochronous

both_false : (u v : Bool) → v ≡ false → (u && v) ≡ false
both_false true v h = h
both_false false v h = refl

module _ (a : Ans Answer) (e v : ℕ) (n : Machine Answer Pages) (h : Fine n) (b : Buf) (off : receiving n.st e
    ≡ false) where
  abbrev Stays : Ans Answer × Machine Answer Pages → Type 0
  Stays y = SamePackets (n.st.outs e) (y.1.st.outs e)

  stays_at : (o : tree.Out Bk Answer) → Followed (n.st, b) o → Watched (n.st, b) o
      → Stays (halt calls book.driver (fed book a) true o)
  stays_at (ends z t) f (end j w) = subst (λ (p : OutPage). SamePackets (n.st.outs e) p) (sym (w.rest.outs e)) refl
  stays_at (asks q t k) (ask i c g) (ask j w f) = subst (λ (p : OutPage). SamePackets p ((fed book a t.0).outs e))
      (w.leaves e (both_false (gives_to q e) (receiving n.st e) off)) (fed-packets a t.0 i e)

  either : (u : Bool) (x y : Ans Answer × Machine Answer Pages) → Stays x → Stays y → Stays (cond u x y)
  either true x y p q = p
  either false x y p q = q

  stays-way : (w : Pending Answer Pages) → WayFine w → in_interrupt w ≡ true
      → Stays (continued calls book.driver (fed book a) v n w b)
  stays-way idle g i = absurd (true≢false (sym i))
  stays-way (busy true q f) g i =
      let z = g v (n.st, b) h.pages in either (over calls q v) _ _ refl (stays_at (f v (n.st, b)) z.0 z.1)
  stays-way (busy false q f) g i = absurd (true≢false (sym i))

pub disabled_leaves : (c : Call Config Op) (a : Ans Answer) (e v : ℕ) (n : Machine Answer Pages) → Fine n → (b : Buf)
    → c ≡ continue v → in_interrupt n.under_way_lem ≡ true → receiving n.st e ≡ false
    → SamePackets (n.st.outs e) ((book_step a c n b).1.st.outs e)
disabled_leaves c a e v n h b p i g =
    subst (λ (c : Call Config Op). SamePackets (n.st.outs e) ((book_step a c n b).1.st.outs e)) (sym p)
    (either a e v n h b g (misfit calls book.driver n.st b) _ _ refl
    (stays-way a e v n h b g n.under_way_lem h.under_way_lem i))

-- ---- a continue that is no interrupt's changes no slot but at a receive address

module _ (a : Ans Answer) (e v : ℕ) (n : Machine Answer Pages) (b : Buf)
    (kept : releasing a ≡ false) (away : addressed a e ≡ false) where
  abbrev Same : Ans Answer × Machine Answer Pages → Type 0
  Same y = blank_a a ≡ blank_a y.0 → y.1.st.outs e ≡ n.st.outs e

  same_at : (z : Bool) (o : tree.Out Bk Answer) → Onto z (n.st, b) o
      → Same (halt calls book.driver (fed book a) false o)
  same_at y (ends z t) (end j w) s = w.outs e
  same_at y (asks q t k) (ask j w g) s = fed-out a t.0 e away
      ∙ (w (releasing-same (handed q) a (sym s) ∙ kept)).outs e

  either_same : (u : Bool) (x y : Ans Answer × Machine Answer Pages) → Same x → Same y → Same (cond u x y)
  either_same true x y p q = p
  either_same false x y p q = q

  same_way : (w : Pending Answer Pages) → WayOnto n.st w → in_interrupt w ≡ false
      → Same (continued calls book.driver (fed book a) v n w b)
  same_way idle x i = λ _. refl
  same_way (busy true q f) x i = absurd (true≢false i)
  same_way (busy false q f) x i = either_same (over calls q v) _ _ (λ _. refl)
      (same_at x.0 (f v (n.st, b)) (x.2 v (n.st, b)))

pub unmoved_slot : (c : Call Config Op) (a : Ans Answer) (e v : ℕ) (n : Machine Answer Pages) → GoesOn n
    → (b : Buf)
    → blank_a a ≡ blank_a (book_step a c n b).0 → c ≡ continue v → in_interrupt n.under_way_lem ≡ false → releasing a
    ≡ false
    → addressed a e ≡ false → (book_step a c n b).1.st.outs e ≡ n.st.outs e
unmoved_slot c a e v n x b s p i r g = subst
    (λ (c : Call Config Op). blank_a a ≡ blank_a (book_step a c n b).0 → (book_step a c n b).1.st.outs e ≡ n.st.outs e)
    (sym p)
    (either_same a e v n b r g (misfit calls book.driver n.st b) _ _ (λ _. refl)
    (same_way a e v n b r g n.under_way_lem x i)) s

-- ---- calls that end at once

-- Q of the answer that it ends with
abbrev Ends : (Answer → Type 0) → tree.Out Bk Answer → Type 0
Ends Q (ends z s) = Q z
Ends Q (asks q s k) = ⊥

by_test : (Q : Answer → Type 0) (u : Bool) (x y : tree.Out Bk Answer) → Ends Q x → Ends Q y → Ends Q (cond u x y)
by_test Q true x y p q = p
by_test Q false x y p q = q

abbrev AtEnd : (Answer → Type 0) → Ans Answer → Type 0
AtEnd Q (ended z) = Q z
AtEnd Q (handed q) = ⊥
AtEnd Q (told k) = ⊥

same_end : (Q : Answer → Type 0) (a y : Ans Answer) → blank_a a ≡ blank_a y → AtEnd Q y
    → (z : Answer) × (a ≡ ended z) × Q z
same_end Q a (ended z) h q = (z, ended_same a z (sym h), q)
same_end Q a (handed r) h q = absurd q
same_end Q a (told k) h q = absurd q

module _ (a : Ans Answer) (o : Op) (n : Machine Answer Pages) (b : Buf)
    (h : Ends (EndsWith o) (run book_ops (code o) (n.st, b))) where
  alone : (i : Bool) (x : tree.Out Bk Answer) → Ends (EndsWith o) x
      → AtEnd (EndsWith o) (halt calls book.driver (fed book a) i x).0
  alone i (ends z s) p = p
  alone i (asks q s k) p = absurd p

  passing : (m : Machine Answer Pages) (x : tree.Out Bk Answer) → Ends (EndsWith o) x
      → AtEnd (EndsWith o) (during_interrupt calls book.driver m x).0
  passing m (ends z s) p = p
  passing m (asks q s k) p = absurd p

  one_of : (u : Bool) (x y : Ans Answer × Machine Answer Pages) → AtEnd (EndsWith o) x.0
      → AtEnd (EndsWith o) y.0 → AtEnd (EndsWith o) (cond u x y).0
  one_of true x y p q = p
  one_of false x y p q = q

  begins : (w : Pending Answer Pages) → AtEnd (EndsWith o) (begun calls book.driver (fed book a) o n w b).0
  begins idle = alone (calls.irq o) (run book_ops (code o) (n.st, b)) h
  begins (busy i q k) = one_of (cond i (calls.aside o) false) _ _
      (passing (lent_to calls book.driver n b) (run book_ops (code o) (n.st, b)) h) (by_row 3)

  at_once : (c : Call Config Op) → blank_a a ≡ blank_a (book_step a c n b).0 → c ≡ begin o → AtOnce o a
  at_once c s p = subst (λ (c : Call Config Op). blank_a a ≡ blank_a (book_step a c n b).0 → AtOnce o a) (sym p)
      (λ s. same_end (EndsWith o) a (book_step a (begin o) n b).0 s
      (one_of (cond (calls.slots o) (misfit calls book.driver n.st b) false) _ _ (by_row 1)
      (begins n.under_way_lem))) s

module _ (t : Pages) (b : Buf) (e : ℕ) where
  open_ends : Ends (EndsWith (aside (Open e))) (run book_ops (code (aside (Open e))) (t, b))
  open_ends = let Q = EndsWith (aside (Open e)) in
      by_test Q (eqb t.kept.globals.stage 2) _ _
      (by_test Q (is_allocated t.kept.allocator Out e) _ _
      (by_test Q (not (is_on (t.kept.plain Out e).iso)) _ _ (by_row 11)
      (by_test Q (some (bytes_of (t.outs e).waiting)) _ _ (opens _ _) (by_row 12)))
      (by_row 5)) (by_row 4)

  close_ends : Ends (EndsWith (aside (Close e))) (run book_ops (code (aside (Close e))) (t, b))
  close_ends = let Q = EndsWith (aside (Close e)) in
      by_test Q (eqb t.kept.globals.stage 2) _ _
      (by_test Q (is_allocated t.kept.allocator Out e) _ _
      (by_test Q (t.outs e).opened _ _ closes (by_row 14))
      (by_row 5)) (by_row 4)

  queue_ends : (bytes : List ℕ)
      → Ends (EndsWith (aside (Queue e bytes))) (run book_ops (code (aside (Queue e bytes))) (t, b))
  queue_ends bytes = let Q = EndsWith (aside (Queue e bytes)) in
      by_test Q (eqb t.kept.globals.stage 2) _ _
      (by_test Q (is_allocated t.kept.allocator In e) _ _
      (by_test Q (enables.is_on t.kept.globals.ep_config In e) _ _
      (by_test Q (ltb t.kept.allocator.size (length bytes)) _ _ (by_row 10)
      (by_test Q (not (is_on (t.kept.plain In e).iso)) _ _ (by_row 11)
      (by_test Q (room_b t e (length bytes)) _ _ queues (by_row 13))))
      (by_row 9)) (by_row 5)) (by_row 4)

  poll-ends : (k : ℕ) → Ends (EndsWith (slotted (PollRead e k))) (run book_ops (code (slotted (PollRead e k))) (t, b))
  poll-ends k = let Q = EndsWith (slotted (PollRead e k)) in
      let p = t.kept.plain Out e in
      by_test Q (eqb t.kept.globals.stage 2) _ _
      (by_test Q (is_allocated t.kept.allocator Out e) _ _
      (by_test Q (not (is_on (t.kept.requests Out e).begun)) _ _ (by_row 15)
      (by_test Q (eqb (t.kept.requests Out e).length k) _ _
      (by_test Q (is_on p.iso) _ _
      (by_test Q (enables.is_on t.kept.globals.ep_config Out e) _ _
      (by_test Q (some (bytes_of (t.outs e).waiting)) _ _ (gives _) waits) (by_row 9))
      (by_test Q (is_on p.ready) _ _
      (by_test Q (too_long k p) _ _ (by_row 10) (gives _))
      (by_test Q (enables.is_on t.kept.globals.ep_config Out e) _ _ waits (by_row 9))))
      (by_row 10))) (by_row 5)) (by_row 4)

pub asides_end : (c : Call Config Op) (a : Ans Answer) (n : Machine Answer Pages) (b : Buf)
    → blank_a a ≡ blank_a (book_step a c n b).0
    → (o : Aside) → c ≡ begin (aside o) → AtOnce (aside o) a
asides_end c a n b s (Open e) p = at_once a (aside (Open e)) n b (open_ends n.st b e) c s p
asides_end c a n b s (Close e) p = at_once a (aside (Close e)) n b (close_ends n.st b e) c s p
asides_end c a n b s (Queue e bytes) p = at_once a (aside (Queue e bytes)) n b (queue_ends n.st b e bytes) c s p

pub polls_end : (c : Call Config Op) (a : Ans Answer) (n : Machine Answer Pages) (b : Buf)
    → blank_a a ≡ blank_a (book_step a c n b).0
    → (e k : ℕ) → c ≡ begin (slotted (PollRead e k)) → AtOnce (slotted (PollRead e k)) a
polls_end c a n b s e k p = at_once a (slotted (PollRead e k)) n b (poll-ends n.st b e k) c s p

-- ---- an enabling that ends at once is refused

abbrev Stops : Ans Answer → Type 0
Stops (ended z) = (r : ℕ) × (z ≡ Refused r)
Stops (handed q) = Unit {0}
Stops (told k) = Unit {0}

module _ (a : Ans Answer) (dir : Dir) (e : ℕ) (on : Bool) (n : Machine Answer Pages) (b : Buf) where
  stops_at : (o : tree.Out Bk Answer) → Asks (Empty dir e n.st) o
      → Stops (halt calls book.driver (fed book a) false o).0
  stops_at (ends z t) w = w
  stops_at (asks q t k) w = tt

  stops-way : (w : Pending Answer Pages)
      → Stops (begun calls book.driver (fed book a) (slotted (SetEnabled dir e on)) n w b).0
  stops-way idle = stops_at (run book_ops (set_enabled dir e on) (n.st, b)) (first-access n.st e dir on b)
  stops-way (busy true q k) = (3, refl)
  stops-way (busy false q k) = (3, refl)

  stops-fits : (u : Bool) → Stops
      (cond u (stay calls book.driver 1 n) (begun calls book.driver (fed book a) (slotted (SetEnabled dir e on)) n
      n.under_way_lem b)).0
  stops-fits true = (1, refl)
  stops-fits false = stops-way n.under_way_lem

pub enabling_ends : (c : Call Config Op) (a : Ans Answer) (n : Machine Answer Pages) (b : Buf)
    → blank_a a ≡ blank_a (book_step a c n b).0
    → (dir : Dir) (e : ℕ) (on : Bool) (z : Answer) → c ≡ begin (slotted (SetEnabled dir e on)) → a ≡ ended z
    → (r : ℕ) × (z ≡ Refused r)
enabling_ends c a n b s dir e on z p g = subst Stops (ended_same (book_step a c n b).0 z (sym (ap blank_a g) ∙ s))
    (subst (λ (c : Call Config Op). Stops (book_step a c n b).0) (sym p)
    (stops-fits a dir e on n b (misfit calls book.driver n.st b)))
