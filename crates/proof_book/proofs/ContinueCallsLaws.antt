-- A continue changes no packet of an OUT but at an interrupt's receive address, and the page of an IN at a load alone,
-- where no packet but the one being sent ceases to wait; but for the release of a bus reset's flag. After EP0's start
-- its transmit address is that of a packet being sent. Over every list of calls
use Rattle.std.specs.Prelude.{Bool, true, false, cond, ◌⊎◌, ◌≢◌, ◌≡◌, refl, ℕ, zero, suc, ◌%◌, ◌<◌, eqb, length}
use Rattle.std.proofs.Common.{true≢false, inl, inr, ap, subst, sym, ◌∙◌, eqb-true, eq-eqb}
use Rattle.regs.specs.declared.Access.{Access}
use Rattle.regs.specs.declared.Access.TheVariants.{Read, Write, Receive, Transmit, Ep0Dma, Wait, Callback}
use Rattle.regs.specs.declared.Reg.TheVariants.{EpTLen}
use Rattle.script.specs.Tree as tree
use Rattle.script.specs.Tree.{ends, asks}
use Rattle.script.specs.Script.{run}
use Rattle.script.specs.Answers.{Answer}
use Rattle.script.specs.StepsRuns as runs
use Rattle.script.specs.StepsRunsLaws.{holds-run}
use Rattle.script.specs.Calls.{Config, Op, interrupt, slotted, other, aside, Other, calls, code, other_code, starting}
use Rattle.script.specs.Calls.{start_row}
use Rattle.script.specs.Machine.{Buf, Call, start, begin, continue, question, Ans, ended, handed, told, blank_a, Pending}
use Rattle.script.specs.Machine.{idle, busy, Machine, over, misfit}
use Rattle.script.specs.Machine.{stay, lent_to, during_interrupt, halt, begun, continued, started, fed}
use Rattle.proof_book.specs.Pages.{OutPage, InPage, Kept, Pages}
use Rattle.proof_book.specs.Book.{Bk, slot_told, source_told, fresh_pages, book_ops, book}
use Rattle.proof_book.specs.FrameLaws.{at-elim, in-same}
use Rattle.proof_book.specs.FrontPage.{book_step, in_interrupt, SamePackets, emptying, loading, PassesOn, SentFrom}
use Rattle.proof_book.specs.FrontPage.{enabling, NoneLeft}
use Rattle.proof_book.specs.FrontPage as page
use Rattle.proof_book.specs.Others.{releases, releasing}
use Rattle.proof_book.specs.BookTracksLaws.{end, ask}
use Rattle.proof_book.proofs.BookCountsLaws.{Periodic}
use Rattle.proof_book.specs.BookDecidesLaws.{Watched, waits-on, PassedBy}
use Rattle.proof_book.proofs.BookCallsLaws.{WayFine, Fine}
use Rattle.proof_book.proofs.SendingStepsLaws.{Followed}
use Rattle.proof_book.specs.SendingPagesLaws.{SameButLoad}
use Rattle.proof_book.proofs.SendingCallsLaws.{WayFollowed, Sending, fed-alike}
use Rattle.proof_book.specs.AnswersLaws.{releasing-same, sending, sending-same, loading-same, fed-elim, fed-kept}
use Rattle.proof_book.specs.AnswersLaws.{fed-in}
use Rattle.proof_book.proofs.OnwardLaws.{Onto, Head, of-onto, heads-run, Goes, plainly, gives, of-slotted}
use Rattle.proof_book.proofs.OnwardLaws.{of_other, of-aside, of-starting}
use Rattle.proof_book.proofs.EarlyScriptsLaws.{stage, Unstarted, giving-keeps}

-- a transmit address loads
no_address : (z : Ans Answer) (e : ℕ) → loading z e ≡ false → sending z e ≡ false
no_address (ended z) e g = refl
no_address (handed (Read r f)) e g = refl
no_address (handed (Write r f w)) e g = refl
no_address (handed (Receive f x)) e g = refl
no_address (handed (Transmit f x)) e g = g
no_address (handed (Ep0Dma x)) e g = refl
no_address (handed (Wait k)) e g = refl
no_address (handed Callback) e g = refl
no_address (told k) e g = refl

alike-passes : {p q r : InPage} → SameButLoad q r → PassesOn p q → PassesOn p r
alike-passes {p} {q} {r} k x =
    let w : r.waiting ≡ q.waiting = ap (λ (i : InPage). i.waiting) k in
    record {
      waiting = elim x.waiting [
        | inl y ↦ inl (w ∙ y)
        | inr y ↦ inr (y.0, w ∙ y.1)
      ];
      queued = ap (λ (i : InPage). i.queued) k ∙ x.queued;
    }

-- ---- what is left of the operation under way; an interrupt's is in BookCallsLaws.antt

-- an allocation is under way before EP0's start alone
abbrev Laying : Pages → (ℕ → Bk → tree.Out Bk Answer) → Type 0
Laying t k = (stage t ≢ 2) × ((v : ℕ) (u : Bk) → Unstarted u → runs.Holds Unstarted (k v u))

abbrev pub WayOnto : Pages → Pending Answer Pages → Type 0
WayOnto t idle = Unit {0}
WayOnto t (busy true q k) = Unit {0}
WayOnto t (busy false q k) = (z : Bool) × (z ≡ true → Laying t k) × ((v : ℕ) (u : Bk) → Onto z u (k v u))

abbrev pub GoesOn : Machine Answer Pages → Type 0
GoesOn n = WayOnto n.st n.under_way_lem

no-allocation : {X : Type 0} → false ≡ true → X
no-allocation h = absurd (true≢false (sym h))

module _ (a : Ans Answer) where
  abbrev halts : Bool → tree.Out Bk Answer → Ans Answer × Machine Answer Pages
  halts i o = halt calls book.driver (fed book a) i o

  interrupts : (o : tree.Out Bk Answer) → GoesOn (halts true o).1
  interrupts (ends z t) = tt
  interrupts (asks q t k) = tt

  lays : {q : Access} {t : Bk} {k : ℕ → Bk → tree.Out Bk Answer} → runs.Holds Unstarted (asks q t k)
      → Laying (fed book a t.0) k
  lays {t = t} (runs.ask j x) = (λ m. j (sym (ap (λ (k : Kept). k.globals.stage) (fed-kept a t.0)) ∙ m), x)

  heads : (y z : Bool) (o : tree.Out Bk Answer) → Head y z o → (z ≡ true → runs.Holds Unstarted o)
      → GoesOn (halts false o).1
  heads y z (ends r t) h g = tt
  heads y z (asks q t k) h g = (z, λ i. lays (g i), h.1)

  others : (o : Other) (s : Bk) → Goes o → GoesOn (halts false (run book_ops (other_code o) s)).1
  others o s (plainly h) = heads false false (run book_ops (other_code o) s) (heads-run h s) no-allocation
  others o s (gives h x refused) = by (eqb (stage s.0) 2) refl
    where
      by : (u : Bool) → eqb (stage s.0) 2 ≡ u → GoesOn (halts false (run book_ops (other_code o) s)).1
      by true m = subst (λ (y : tree.Out Bk Answer). GoesOn (halts false y).1)
          (sym (refused s (eqb-true (stage s.0) 2 m))) tt
      by false m = heads false true (run book_ops (other_code o) s) (heads-run h s)
          (λ _. holds-run giving-keeps (other_code o) x s
          (λ k. absurd (true≢false (sym (ap (λ (n : ℕ). eqb n 2) k) ∙ m))))

  begins : (o : Op) (s : Bk) → GoesOn (halts (calls.irq o) (run book_ops (code o) s)).1
  begins interrupt s = interrupts (run book_ops (code interrupt) s)
  begins (slotted o) s = heads (enabling (slotted o)) false (run book_ops (code (slotted o)) s)
      (heads-run (of-slotted o) s) no-allocation
  begins (other o) s = others o s (of_other o)
  begins (aside o) s = heads false false (run book_ops (code (aside o)) s) (heads-run (of-aside o) s) no-allocation

  either : (u : Bool) (x y : Ans Answer × Machine Answer Pages) → GoesOn x.1 → GoesOn y.1 → GoesOn (cond u x y).1
  either true x y h k = h
  either false x y h k = k

  besides : (m : Machine Answer Pages) (o : tree.Out Bk Answer) → ((t : Pages) → WayOnto t m.under_way_lem)
      → GoesOn (during_interrupt calls book.driver m o).1
  besides m (ends z t) h = h t.0
  besides m (asks q t k) h = h m.st

  begun-onto : (o : Op) (n : Machine Answer Pages) → GoesOn n → (w : Pending Answer Pages) → n.under_way_lem ≡ w
      → (b : Buf)
      → GoesOn (begun calls book.driver (fed book a) o n w b).1
  begun-onto o n h idle p b = begins o (n.st, b)
  begun-onto o n h (busy true q k) p b = either (calls.aside o) _ _
      (besides (lent_to calls book.driver n b) (run book_ops (code o) (n.st, b)) (λ t. subst (WayOnto t) (sym p) tt))
      h
  begun-onto o n h (busy false q k) p b = h

  continued-onto : (v : ℕ) (n : Machine Answer Pages) → GoesOn n → (w : Pending Answer Pages) → WayOnto n.st w
      → (b : Buf)
      → GoesOn (continued calls book.driver (fed book a) v n w b).1
  continued-onto v n h idle g b = h
  continued-onto v n h (busy true q k) g b = either (over calls q v) _ _ h (interrupts (k v (n.st, b)))
  continued-onto v n h (busy false q k) g b = either (over calls q v) _ _ h
      (heads false g.0 (k v (n.st, b)) (of-onto false (g.2 v (n.st, b)))
      (λ i. let l = g.1 i in l.1 v (n.st, b) l.0))

  pub start-onto : (c : Config) (n : Machine Answer Pages) (b : Buf)
      → GoesOn (started calls book.driver (fed book a) c zero n b).1
  start-onto c n b = heads false false (run book_ops (starting c) (fresh_pages c, b))
      (heads-run (of-starting c) (fresh_pages c, b)) no-allocation

  started-onto : (c : Config) (r : ℕ) (n : Machine Answer Pages) (b : Buf) → GoesOn n
      → GoesOn (started calls book.driver (fed book a) c r n b).1
  started-onto c zero n b h = start-onto c n b
  started-onto c (suc r) n b h = h

  pub goes_on_lem : (c : Call Config Op) (n : Machine Answer Pages) → GoesOn n → (b : Buf) → GoesOn (book_step a c n b).1
  goes_on_lem (start c) n h b = started-onto c (start_row c b) n b h
  goes_on_lem (begin o) n h b = either (cond (calls.slots o) (misfit calls book.driver n.st b) false) _ _ h
      (begun-onto o n h n.under_way_lem refl b)
  goes_on_lem (continue v) n h b = either (misfit calls book.driver n.st b) _ _ h
      (continued-onto v n h n.under_way_lem h b)
  goes_on_lem (question q) n h b = h

-- ---- a continue

-- an address that is told changes an OUT's slot alone
pub fed-packets : (z : Ans Answer) (t : Pages) → Periodic t → (e : ℕ) → SamePackets (t.outs e) ((fed book z t).outs e)
fed-packets z t i e = fed-elim (λ u. SamePackets (t.outs e) (u.outs e)) z t refl
    (λ f x _. at-elim (λ (p : OutPage). SamePackets (t.outs e) p) f e (slot_told (t.outs f) x) t.outs
    (λ m. ap (λ (p : OutPage). slot_told p x) (i f e (sym m))) (λ _. refl))
    (λ f x _. refl)

module _ (a : Ans Answer) (e : ℕ) (n : Machine Answer Pages) where
  -- the call's outcome y
  pub record Continued (y : Ans Answer × Machine Answer Pages) : Type 0 where
    pub outs : blank_a a ≡ blank_a y.0 → in_interrupt n.under_way_lem ≡ false → releasing a ≡ false
        → SamePackets (n.st.outs e) (y.1.st.outs e)
    pub spares : blank_a a ≡ blank_a y.0 → emptying n.under_way_lem a ≡ false → loading a e ≡ false → y.1.st.ins e
        ≡ n.st.ins e
    pub passes : blank_a a ≡ blank_a y.0 → emptying n.under_way_lem a ≡ false
        → PassesOn (n.st.ins e) (y.1.st.ins e)
    pub empties : blank_a a ≡ blank_a y.0 → emptying n.under_way_lem a ≡ false → a ≡ handed (Write EpTLen e 0)
        → (y.1.st.ins e ≡ n.st.ins e) ⊎ NoneLeft (y.1.st.ins e)
    pub sends : (x : ℕ) → blank_a a ≡ blank_a y.0 → (in_interrupt n.under_way_lem ≡ false → stage n.st ≡ 2) → a
        ≡ handed (Transmit e x)
        → SentFrom x (y.1.st.ins e)
    pub moves : (x : ℕ) → blank_a a ≡ blank_a y.0 → emptying n.under_way_lem a ≡ false → a ≡ handed (Transmit e x)
        → (y.1.st.ins e).load ≡ true
        → PassedBy (n.st.ins e) (y.1.st.ins e)

  -- what the book is told is the driver's answer, but for an address
  pub told_sends : (y : Ans Answer) → blank_a a ≡ blank_a y → sending y e ≡ sending a e
  told_sends y s = sending-same e y a (sym s)

  pub own_address : (x : ℕ) → a ≡ handed (Transmit e x) → sending a e ≡ true
  own_address x g = ap (λ (z : Ans Answer). sending z e) g ∙ eq-eqb (e % 16) (e % 16) refl

  pub told_releases : (q : Access) → blank_a a ≡ blank_a (handed q) → releasing a ≡ false → releases q ≡ false
  told_releases q s r = releasing-same (handed q) a (sym s) ∙ r

  -- no page changed, and no address handed out
  unchanged : (y : Ans Answer × Machine Answer Pages) → sending y.0 e ≡ false
      → y.1.st.outs e ≡ n.st.outs e → y.1.st.ins e ≡ n.st.ins e → Continued y
  unchanged y f h k = record {
    outs = λ _ _ _. subst (λ (p : OutPage). SamePackets (n.st.outs e) p) (sym h) refl;
    spares = λ _ _ _. k;
    passes = λ _ _. subst (λ (p : InPage). PassesOn (n.st.ins e) p) (sym k) waits-on;
    empties = λ _ _ _. inl k;
    sends = λ x s _ g. absurd (true≢false (sym (own_address x g) ∙ sym (told_sends y.0 s) ∙ f));
    moves = λ x s _ g _. absurd (true≢false (sym (own_address x g) ∙ sym (told_sends y.0 s) ∙ f));
  }

  -- at a load's address, which is told
  pub fed_loaded : (t : Pages) (x : ℕ) → a ≡ handed (Transmit e x)
      → (0 < length (t.ins e).waiting) × ((t.ins e).sending ≡ true) × ((t.ins e).load ≡ true)
      → SentFrom x ((fed book a t).ins e)
  fed_loaded t x g z = subst (SentFrom x)
      (sym (ap (λ (a : Ans Answer). (fed book a t).ins e) g ∙ in-same t e (source_told (t.ins e) x)))
      (z.0, z.1, ap (λ (u : Bool). cond u x (t.ins e).source) z.2, z.2)

  fed_moves : (t : Pages) (x : ℕ) → a ≡ handed (Transmit e x)
      → ((t.ins e).load ≡ true → PassedBy (n.st.ins e) (t.ins e))
      → ((fed book a t).ins e).load ≡ true → PassedBy (n.st.ins e) ((fed book a t).ins e)
  fed_moves t x g h =
      subst (λ (p : InPage). p.load ≡ true → PassedBy (n.st.ins e) p)
      (sym (ap (λ (a : Ans Answer). (fed book a t).ins e) g ∙ in-same t e (source_told (t.ins e) x))) h

  -- no address is told
  fed_empties : (t : Pages) → a ≡ handed (Write EpTLen e 0) → (t.ins e ≡ n.st.ins e) ⊎ NoneLeft (t.ins e)
      → ((fed book a t).ins e ≡ n.st.ins e) ⊎ NoneLeft ((fed book a t).ins e)
  fed_empties t g z = subst (λ (p : InPage). (p ≡ n.st.ins e) ⊎ NoneLeft p)
      (sym (ap (λ (a : Ans Answer). (fed book a t).ins e) g)) z

  module _ (v : ℕ) (h : Fine n) (o : Sending n) (b : Buf) where
    told_loads : (q : Access) → blank_a a ≡ blank_a (handed q) → loading a e ≡ false → page.loads q e ≡ false
    told_loads q s l = loading-same e (handed q) a (sym s) ∙ l

    -- of an interrupt
    of_interrupt : (u : Bool) (z : tree.Out Bk Answer) → in_interrupt n.under_way_lem ≡ true → Followed u (n.st, b) z
        → Watched (n.st, b) z
        → Continued (halt calls book.driver (fed book a) true z)
    of_interrupt u (ends z t) i (end j q) (end k w) = unchanged
        (ended z, record { under_way_lem = idle; st = t.0; buf = t.1 }) refl (w.rest.outs e) (w.ins e)
    of_interrupt u (asks q t k) i (ask j m f) (ask x w g) = record {
      outs = λ _ g _. absurd (true≢false (sym i ∙ g));
      spares = λ s _ l. fed-in a t.0 e (no_address a e l) ∙ w.passing.spares e (told_loads q s l);
      passes = λ _ _. alike-passes {q = t.0.ins e} {r = (fed book a t.0).ins e} (fed-alike a t.0 j e)
          (w.passing.passes o.pages.periodic e);
      empties = λ s _ g. fed_empties t.0 g (w.passing.empties e (told_sends (handed q) s
          ∙ ap (λ (z : Ans Answer). sending z e) g));
      sends = λ x s _ g. fed_loaded t.0 x g (w.loads e (told_sends (handed q) s ∙ own_address x g));
      moves = λ x s _ g. fed_moves t.0 x g (w.passing.exact o.pages.periodic e (told_sends (handed q) s
          ∙ own_address x g));
    }

    -- of another operation
    of_other_one : (u f : Bool) → (stage n.st ≡ 2 → f ≡ false) → (z : tree.Out Bk Answer)
        → in_interrupt n.under_way_lem ≡ false
        → Followed u (n.st, b) z → Onto f (n.st, b) z → Continued (halt calls book.driver (fed book a) false z)
    of_other_one u f late (ends z t) i (end j q) (end k w)
        = unchanged (ended z, record { under_way_lem = idle; st = t.0; buf = t.1 }) refl (w.outs e) (w.ins e)
    of_other_one u f late (asks q t k) i (ask j m l) (ask x w g) = record {
      outs = λ s _ r.
          let c = w (told_releases q s r) in
          let p : Periodic t.0 = λ x y m. c.outs x ∙ h.pages x y m ∙ sym (c.outs y) in
          subst (λ (p : OutPage). SamePackets p ((fed book a t.0).outs e)) (c.outs e) (fed-packets a t.0 p e);
      spares = λ s r l. fed-in a t.0 e (no_address a e l)
          ∙ (w (told_releases q s (not_emptying r))).passing.spares e (told_loads q s l);
      passes = λ s r. alike-passes {q = t.0.ins e} {r = (fed book a t.0).ins e} (fed-alike a t.0 j e)
          ((w (told_releases q s (not_emptying r))).passing.passes o.pages.periodic e);
      empties = λ s r g. fed_empties t.0 g
          ((w (told_releases q s (not_emptying r))).passing.empties e (told_sends (handed q) s
          ∙ ap (λ (z : Ans Answer). sending z e) g));
      sends = λ x s m g. fed_loaded t.0 x g
          ((w (told_releases q s (ap releasing g))).loads (late (m i)) e (told_sends (handed q) s ∙ own_address x g));
      moves = λ x s r g. fed_moves t.0 x g
          ((w (told_releases q s (ap releasing g))).passing.exact o.pages.periodic e (told_sends (handed q) s
          ∙ own_address x g));
    }
      where
        not_emptying : emptying n.under_way_lem a ≡ false → releasing a ≡ false
        not_emptying r = sym (ap (λ (u : Bool). cond u false (releasing a)) i) ∙ r

    wide : (u : Bool) (y : Ans Answer × Machine Answer Pages) → Continued y
        → Continued (cond u (stay calls book.driver 16 (lent_to calls book.driver n b)) y)
    wide true y k = unchanged (stay calls book.driver 16 (lent_to calls book.driver n b)) refl refl refl
    wide false y k = k

    -- after EP0's start no allocation is under way
    unlaid : (z : Bool) {k : ℕ → Bk → tree.Out Bk Answer} → (z ≡ true → Laying n.st k) → stage n.st ≡ 2 → z
        ≡ false
    unlaid true h m = absurd ((h refl).0 m)
    unlaid false h m = refl

    by_way : (w : Pending Answer Pages) → n.under_way_lem ≡ w → WayFine w → WayFollowed w → WayOnto n.st w
        → Continued (continued calls book.driver (fed book a) v n w b)
    by_way idle p g k x = unchanged (stay calls book.driver 15 (lent_to calls book.driver n b)) refl refl refl
    by_way (busy true q f) p g k x = wide (over calls q v) _
        (of_interrupt k.0 (f v (n.st, b)) (ap in_interrupt p) (k.1 v (n.st, b) o.pages)
        (g v (n.st, b) h.pages).1)
    by_way (busy false q f) p g k x = wide (over calls q v) _
        (of_other_one k.0 x.0 (unlaid x.0 x.1) (f v (n.st, b)) (ap in_interrupt p)
        (k.1 v (n.st, b) o.pages) (x.2 v (n.st, b)))

    fits : GoesOn n → (u : Bool) → Continued (cond u (stay calls book.driver 1 n)
        (continued calls book.driver (fed book a) v n n.under_way_lem b))
    fits x true = unchanged (stay calls book.driver 1 n) refl refl refl
    fits x false = by_way n.under_way_lem refl h.under_way_lem o.under_way_lem x

pub continues-of : (c : Call Config Op) (a : Ans Answer) (e v : ℕ) (n : Machine Answer Pages) → Fine n → Sending n
    → GoesOn n → (b : Buf)
    → c ≡ continue v → Continued a e n (book_step a c n b)
continues-of c a e v n h o x b p = subst (λ (c : Call Config Op). Continued a e n (book_step a c n b)) (sym p)
    (fits a e n v h o b x (misfit calls book.driver n.st b))
