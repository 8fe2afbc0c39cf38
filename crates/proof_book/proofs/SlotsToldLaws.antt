-- No begin but an allocation's changes the slot of an OUT, but at a receive address of it
use Rattle.std.specs.Prelude.{Bool, true, false, cond, ◌&&◌, ◌≡◌, refl, ℕ, zero, suc, ◌%◌, eqb, ltb, length}
use Rattle.std.proofs.Common.{true≢false, ap, subst, sym, ◌∙◌}
use Rattle.regs.specs.declared.Dir.TheVariants.{Out, In}
use Rattle.alloc.specs.declared.Answer as alloc-answer
use Rattle.alloc.specs.declared.Answer.TheVariants as alloc
use Rattle.alloc.specs.Alloc.{allocate_ep0_of}
use Rattle.script.specs.Tree as tree
use Rattle.script.specs.Tree.{ends, asks}
use Rattle.script.specs.Cells.{Cell, Val}
use Rattle.script.specs.Script.{run, Act, complete, reset_ring, set_enabled_lem, fill, fill0, open_oldest, close_oldest}
use Rattle.script.specs.Script.{take_oldest, enqueue, allocate, allocate0, no_wakes, waken, DmaStep, arrive, send}
use Rattle.script.specs.Script.{place}
use Rattle.script.specs.Script.{place0, Burst, switch, bus_reset_lem}
use Rattle.script.specs.Steps.{Kind, giving, kind_of, is, may_act}
use Rattle.script.specs.StepsRuns.{Holds, end, ask, Keeps}
use Rattle.script.specs.StepsRunsLaws.{holds-run}
use Rattle.script.proofs.StepsCalls.{call-steps}
use Rattle.script.specs.Answers.{Answer}
use Rattle.script.specs.Calls.{Config, Op, interrupt, slotted, other, aside, Slotted, SetEnabled, PollRead, BeginWrite}
use Rattle.script.specs.Calls.{PollWrite, PollDataOut, BeginDataIn, Other, Allocate, AllocateAll, Start, BusPoll}
use Rattle.script.specs.Calls.{BusEnable, BusDisable, Microframe, SetStalled, IsStalled, SetPaced, Advance, BeginRead}
use Rattle.script.specs.Calls.{BeginSetup, PollSetup, PollDataIn, BeginAccept, PollAccept, BeginReject, BeginDataOut}
use Rattle.script.specs.Calls.{BeginAcceptSetAddress, calls, code}
use Rattle.script.specs.Machine.{Buf, Call, begin, Ans, Pending, idle, busy, Machine, misfit, lent_to}
use Rattle.script.specs.Machine.{during_interrupt, halt, begun, fed}
use Rattle.proof_book.specs.Pages.{Packet, OutPage, Pages, with_out}
use Rattle.proof_book.specs.Book.{Bk, put_b, act_b, hand_b, row_b, some, waits_on, room_b, iso_of, iso_out, receiving}
use Rattle.proof_book.specs.Book.{empty_out, open_out, read_out, arrived, joined, overrun, packet_b, started_b}
use Rattle.proof_book.specs.Book.{book_ops, book}
use Rattle.proof_book.specs.FrameLaws.{at-elim}
use Rattle.proof_book.specs.FrontPage.{book_step, addressed, BeforeStart, allocation, allocations}
use Rattle.proof_book.proofs.BookCallsLaws.{Fine}
use Rattle.proof_book.specs.AnswersLaws.{fed-out}
use Rattle.proof_book.specs.RefusingLaws.{put_same}

-- ---- each step of a script but an allocation leaves the slots; f: the slots

module _ (f : ℕ → ℕ) (periodic : (x y : ℕ) → x % 16 ≡ y % 16 → f x ≡ f y) where
  abbrev Are : Pages → Type 0
  Are t = (e : ℕ) → (t.outs e).slot ≡ f e

  abbrev AreIn : Bk → Type 0
  AreIn s = Are s.0

  with-page : (t : Pages) (e : ℕ) (p : OutPage) → p.slot ≡ f e → Are t → Are (with_out t e p)
  with-page t e p h k x = at-elim (λ (q : OutPage). q.slot ≡ f x) e x p t.outs (λ m. h ∙ periodic e x (sym m))
      (λ _. k x)

  either : (u : Bool) (x y : Pages) → Are x → Are y → Are (cond u x y)
  either true x y h k = h
  either false x y h k = k

  either-of : (u : Bool) (x y : Bk) → AreIn x → AreIn y → AreIn (cond u x y)
  either-of true x y h k = h
  either-of false x y h k = k

  puts : (c : Cell) (v : Val c) (s : Bk) → AreIn s → AreIn (put_b c v s)
  puts c v s k x = ap (λ (p : OutPage). p.slot) ((put_same c v s).outs x) ∙ k x

  started : (maximum : ℕ) (a : alloc-answer.Answer) (t : Pages) → Are t → Are (started_b maximum a t)
  started maximum (alloc.Refused n) t k = k
  started maximum (alloc.Given e base slots) t k = k

  module _ (j : Kind) (none : is j giving ≡ false) where
    acts : (q : Act) → may_act j q ≡ true → (s : Bk) → AreIn s → AreIn (act_b q s)
    acts (complete e) h s k = k
    acts (reset_ring Out e) h s k =
        either (iso_of s.0 Out e) _ _ k (with-page s.0 e (empty_out (s.0.outs e)) (k e) k)
    acts (reset_ring In e) h s k = k
    acts (set_enabled_lem d e on) h s k = either (iso_out s.0 d e) _ _ k k
    acts (fill e bytes) h s k = k
    acts (fill0 bytes) h s k = k
    acts (open_oldest e) h s k =
        either (some (waits_on s.0 Out e)) _ _ (with-page s.0 e (open_out (s.0.outs e)) (k e) k) k
    acts (close_oldest e) h s k =
        either (s.0.outs e).opened _ _ (with-page s.0 e (read_out (s.0.outs e)) (k e) k) k
    acts (take_oldest e) h s k =
        either (some (waits_on s.0 Out e)) _ _ (with-page s.0 e (read_out (s.0.outs e)) (k e) k) k
    acts (enqueue e bytes) h s k = either-of (room_b s.0 e (length bytes)) _ _ k k
    acts (allocate d kind address maximum interval) h s k = absurd (true≢false (sym h ∙ none))
    acts (allocate0 maximum) h s k = started maximum (allocate_ep0_of s.0.kept.allocator maximum).answer _ k
    acts no_wakes h s k = k
    acts (waken codes) h s k = k

    arrived-slot : (u : Bool) (p : OutPage) (q : Packet) → (cond u (joined p q) (overrun p)).slot ≡ p.slot
    arrived-slot true p q = refl
    arrived-slot false p q = refl

    hands : (q : DmaStep) (s : Bk) → AreIn s → AreIn (hand_b q s).1
    hands (arrive e n) s k = either (receiving s.0 e) _ _
        (with-page s.0 e (arrived (s.0.outs e) (packet_b e n s))
        (arrived-slot (ltb (length (s.0.outs e).waiting) 15) (s.0.outs e) (packet_b e n s) ∙ k e) k) k
    hands (send e) s k = k
    hands (place Out e) s k = k
    hands (place In e) s k = k
    hands place0 s k = k

    in_row : (g : Burst) (n : ℕ) (s : Bk) → AreIn s → AreIn (row_b g n s).1
    in_row (switch e on) zero s k = k
    in_row (switch e on) (suc zero) s k = k
    in_row (switch e on) (suc (suc zero)) s k = k
    in_row (switch e on) (suc (suc (suc n))) s k =
        either (iso_of s.0 Out e && eqb n 15) _ _ (with-page s.0 e (empty_out (s.0.outs e)) (k e) k) k
    in_row bus_reset_lem zero s k = k
    in_row bus_reset_lem (suc zero) s k = k
    in_row bus_reset_lem (suc (suc zero)) s k = k
    in_row bus_reset_lem (suc (suc (suc n))) s k = k

    keeps : Keeps book_ops AreIn j
    keeps = record {
      put = λ c v _ s k. puts c v s k;
      act = λ q h s k. acts q h s k;
      hand = λ q _ s k. hands q s k;
      row = λ g _ n s k. in_row g n s k;
    }

-- ---- a begin

late-slotted : (o : Slotted) → is (kind_of (slotted o)) giving ≡ false
late-slotted (SetEnabled d e on) = refl
late-slotted (PollRead e n) = refl
late-slotted (BeginWrite e bytes) = refl
late-slotted (PollWrite e bytes) = refl
late-slotted (PollDataOut n) = refl
late-slotted (BeginDataIn bytes first last) = refl

module _ (t : Pages) where
  late_other : (o : Other) → (BeforeStart t (begin (other o)) → ⊥) → is (kind_of (other o)) giving ≡ false
  late_other (Allocate d kind address maximum interval) h = absurd (h (allocation d kind address maximum interval))
  late_other (AllocateAll bytes) h = absurd (h (allocations bytes))
  late_other (Start maximum) h = refl
  late_other BusPoll h = refl
  late_other BusEnable h = refl
  late_other BusDisable h = refl
  late_other Microframe h = refl
  late_other (SetStalled d e on) h = refl
  late_other (IsStalled d e) h = refl
  late_other (SetPaced e on) h = refl
  late_other (Advance e) h = refl
  late_other (BeginRead e n) h = refl
  late_other BeginSetup h = refl
  late_other PollSetup h = refl
  late_other PollDataIn h = refl
  late_other BeginAccept h = refl
  late_other PollAccept h = refl
  late_other BeginReject h = refl
  late_other (BeginDataOut n first) h = refl
  late_other (BeginAcceptSetAddress a) h = refl

  late : (o : Op) → (BeforeStart t (begin o) → ⊥) → is (kind_of o) giving ≡ false
  late interrupt h = refl
  late (slotted o) h = late-slotted o
  late (other o) h = late_other o h
  late (aside o) h = refl

module _ (a : Ans Answer) (o : Op) (e : ℕ) (n : Machine Answer Pages) (fine : Fine n) (b : Buf)
    (none : is (kind_of o) giving ≡ false) (away : addressed a e ≡ false) where
  abbrev slots : ℕ → ℕ
  slots x = (n.st.outs x).slot

  abbrev Stays : Ans Answer × Machine Answer Pages → Type 0
  Stays y = (y.1.st.outs e).slot ≡ slots e

  abbrev Runs : tree.Out Bk Answer → Type 0
  Runs x = Holds (λ (s : Bk). (e : ℕ) → (s.0.outs e).slot ≡ slots e) x

  runs : Runs (run book_ops (code o) (n.st, b))
  runs = let same : (x y : ℕ) → x % 16 ≡ y % 16 → slots x ≡ slots y
      = λ x y h. ap (λ (p : OutPage). p.slot) (fine.pages x y h) in
      holds-run (keeps slots same (kind_of o) none) (code o) (call-steps o) (n.st, b) (λ _. refl)

  alone : (i : Bool) (x : tree.Out Bk Answer) → Runs x → Stays (halt calls book.driver (fed book a) i x)
  alone i (ends z t) (end h) = h e
  alone i (asks q t k) (ask h g) = ap (λ (p : OutPage). p.slot) (fed-out a t.0 e away) ∙ h e

  besides : (x : tree.Out Bk Answer) → Runs x → Stays (during_interrupt calls book.driver
      (lent_to calls book.driver n b) x)
  besides (ends z t) (end h) = h e
  besides (asks q t k) (ask h g) = refl

  one_of : (u : Bool) (x y : Ans Answer × Machine Answer Pages) → Stays x → Stays y → Stays (cond u x y)
  one_of true x y h k = h
  one_of false x y h k = k

  begins : (w : Pending Answer Pages) → Stays (begun calls book.driver (fed book a) o n w b)
  begins idle = alone (calls.irq o) (run book_ops (code o) (n.st, b)) runs
  begins (busy i q k) = one_of (cond i (calls.aside o) false) _ _ (besides (run book_ops (code o) (n.st, b)) runs) refl

  stays : Stays (book_step a (begin o) n b)
  stays = one_of (cond (calls.slots o) (misfit calls book.driver n.st b) false) _ _ refl (begins n.under_way_lem)

pub begin_slot : (c : Call Config Op) (a : Ans Answer) (o : Op) (e : ℕ) (n : Machine Answer Pages) → Fine n → (b : Buf)
    → c ≡ begin o → (BeforeStart n.st (begin o) → ⊥) → addressed a e ≡ false
    → ((book_step a c n b).1.st.outs e).slot ≡ (n.st.outs e).slot
begin_slot c a o e n h b p late-one away =
    subst (λ (c : Call Config Op). ((book_step a c n b).1.st.outs e).slot ≡ (n.st.outs e).slot) (sym p)
    (stays a o e n h b (late n.st o late-one) away)
