-- The exported calls that bring several readings are steps of demand 3, one for each reading that was asked for,
-- whatever slot buffer the run has: `interrupt-steps`, `continue-transfer-steps`, `interrupt-transfer-steps`,
-- `continue-released-steps`, `continue-looks-steps`; the hypothesis of each is the call's contract (Exported.antt).
-- The steps, the first one included, are a list
-- of demand 3: `interrupt-calls`, `continue-calls`; of the chip's stores they ask what the calls of one access ask, and
-- no more. Assumes nothing.
use Rattle.std.specs.Prelude.{Bool, true, false, not, cond, List, [], ◌∷◌, ◌≡◌, refl, ℕ, eqb}
use Rattle.std.proofs.Common.{true≢false, ap, sym, subst, ◌∙◌}
use Rattle.regs.specs.declared.Access.TheVariants.{Read, Write, Receive, Transmit, Ep0Dma, Wait, Callback}
use Rattle.regs.specs.declared.Reg.{Reg}
use Rattle.regs.specs.declared.Reg.TheVariants.{IntFg, IntSt, MisSt, RxLen, FrameNo}
use Rattle.state.specs.State.{view}
use Rattle.state.specs.Driver.{Driver}
use Rattle.state.specs.Wakes.{unwoken}
use Rattle.script.specs.Script.{Script, ret, test, run}
use Rattle.script.specs.Answers.{Answer, Refused, resultless}
use Rattle.script.specs.Handler.{stamped_interrupt}
use Rattle.script.specs.Calls.{Config, Op, interrupt, calls}
use Rattle.script.specs.Machine.{Buf, begin, continue, Event, Machine, misfit, Ans, ended, handed, told, Pending, idle}
use Rattle.script.specs.Machine.{busy, stay, begun, continued, halt, fed}
use Rattle.answer.specs.declared.Step.{Step}
use Rattle.answer.specs.declared.Step.TheVariants as step
use Rattle.machine.specs.Suspended.{machine_of, driver_of, answer_of, lent_or, slots_fit, BufferUnchangedOnRow1}
use Rattle.machine.specs.KeepsLaws.{kept_by}
use Rattle.answer.specs.Goes.{StepResult}
use Rattle.calls.specs.Sharing.{settled, shared_call}
use Rattle.answer.specs.Word.{Worded}
use Rattle.readings.specs.Readings.{Reading, reading, Lent, lent, Continues, When, Over, Brings, BeginsWith}
use Rattle.readings.specs.Readings.{ContinuesWith, asks_for}
use Rattle.readings.specs.Readings.{first_look, further_looks}
use Rattle.usbhs_c.proofs.together.usbhs_interrupt.Reads as interrupt-contract
use Rattle.usbhs_c.proofs.together.usbhs_continue_transfer.Reads as continue-transfer-contract
use Rattle.usbhs_c.proofs.together.usbhs_interrupt_transfer.Reads as interrupt-transfer-contract
use Rattle.usbhs_c.proofs.together.usbhs_continue_released.Reads as continue-released-contract
use Rattle.usbhs_c.proofs.together.usbhs_continue_looks.Reads as continue-looks-contract
use Rattle.proof_book.specs.Pages.{Pages, with_kept, kept_wakes}
use Rattle.proof_book.specs.Book.{book}
use Rattle.proof_book.specs.FrontPage.{Chip, BufferPreserved, when_not}
use Rattle.proof_bus_time.proofs.CodeLaws.{leaves-record}
use Rattle.proof_contracts.specs.SharedBook.{shared_step}
use Rattle.proof_contracts.specs.SharedPage.{MadeShared, CallStep, Calls, noted}
use Rattle.proof_contracts.specs.SavedPage.{Saving}
use Rattle.proof_contracts.specs.StepsLaws.{worded}
use Rattle.proof_contracts.specs.Together.{asked, event, InTurn, last_of, ComesTo, AreSteps, Followed}
use Rattle.proof_contracts.specs.Together.{InterruptSteps}

asked_is : (r : Reg) (x : Step) (d : Driver) → asked r (answer_of x [] d) ≡ asks_for r x
asked_is r (step.Refused n) d = refl
asked_is r (step.Asks q) d = refl
asked_is r (step.Ends n k) d = refl
asked_is r step.NotYet d = refl
asked_is r (step.Done n) d = refl
asked_is r (step.Setup low high) d = refl
asked_is r (step.Shown at n stamp) d = refl

-- a call that answered r and left l
abbrev made : Event Config Op → List ℕ → Step → Lent → MadeShared
made e before r l = record {
  event = e;
  before = before;
  answer = answer_of r [] (view l.bytes);
  bytes = l.bytes;
  slots = l.slots;
  time = l.time;
}

-- the run's slot buffer is the one that is lent: so it is after the call, row 1 or not
as-left : (d : Driver) (b b' : Buf) → BufferUnchangedOnRow1 d b b' → b' ≡ lent_or d b b' b
as-left d b b' kept = by (slots_fit d b) refl
  where
    by : (x : Bool) → slots_fit d b ≡ x → b' ≡ cond x b' b
    by true h = refl
    by false h = kept h

continue-step : (i v : ℕ) (l : Lent) (x : Step) (k : Lent) → Continues i v l x k
    → CallStep i l.bytes l.slots (made (event (continue v) l.slots) l.time x k)
continue-step i v l x k c =
    ap (λ (s : Buf). ((answer_of x [] (view k.bytes), machine_of k.bytes s), k.time))
    (as-left (view l.bytes) l.slots k.slots c.kept)
    ∙ c.did l.slots

-- no further call
over : (m : MadeShared) (r : Step) (l : Lent) (b : Buf) (r' : Step) (l' : Lent) → ComesTo m r l b → Over r l r' l'
    → ComesTo m r' l' b
over m r l b r' l' h o = subst (λ (z : Step). ComesTo m z l' b) (sym o.0)
    (subst (λ (z : Lent). ComesTo m r z b) (sym o.1) h)

leaves-made : (e : Event Config Op) (before : List ℕ) (r : Step) (l : Lent) (b : Buf)
    → ComesTo (made e before r (lent l.bytes b l.time)) r l b
leaves-made e before r l b = record { answer = refl; bytes = refl; slots = refl; time = refl }

as-over : (r : Step) (l : Lent) (r' : Step) (l' : Lent) → Over r l r' l' → l.slots ≡ l'.slots
as-over r l r' l' o = ap (λ (z : Lent). z.slots) (sym o.1)

-- the calls that follow
abbrev Following : ℕ → List Reading → MadeShared → Lent → Step → Lent → Type 0
Following i vs m l r' l' = (ms : List MadeShared) × Saving i l.bytes l.slots ms × InTurn vs m ms
    × ComesTo (last_of m ms) r' l' l'.slots

-- none follow
at_end : (m : MadeShared) (r : Step) (l : Lent) (r' : Step) (l' : Lent) → ComesTo m r l l.slots → Over r l r' l'
    → ComesTo m r' l' l'.slots
at_end m r l r' l' h o = subst (λ (b : Buf). ComesTo m r' l' b) (as-over r l r' l' o) (over m r l l.slots r' l' h o)

following : (i : ℕ) (vs : List Reading) (e : Event Config Op) (before : List ℕ) (r : Step) (l : Lent) (r' : Step)
    (l' : Lent)
    → Brings i vs r l r' l' → Following i vs (made e before r l) l r' l'
following i [] e before r l r' l' h = (
  [],
  tt,
  tt,
  at_end (made e before r l) r l r' l'
      (leaves-made e before r l l.slots) h,
)
following i (v ∷ vs) e before r l r' l' h =
    by (asks_for v.register r) (asked_is v.register r (view l.bytes)) h
    (λ x k g. following i vs (event (continue v.value) l.slots) l.time x k r' l' g)
  where
    by : (b : Bool) → asked v.register (answer_of r [] (view l.bytes)) ≡ b
        → When b ((x : Step) × (k : Lent) × Continues i v.value l x k × Brings i vs x k r' l') (Over r l r' l')
        → ((x : Step) (k : Lent) → Brings i vs x k r' l'
        → Following i vs (made (event (continue v.value) l.slots) l.time x k) k r' l')
        → Following i (v ∷ vs) (made e before r l) l r' l'
    by false a o on = ([], tt, a, at_end (made e before r l) r l r' l' (leaves-made e before r l l.slots) o)
    by true a g on =
        let rest = on g.0 g.1 g.3 in (
          made (event (continue v.value) l.slots) l.time g.0 g.1 ∷ rest.0,
          (continue-step i v.value l g.0 g.1 g.2, kept_by g.0 _ _ _ _ g.2.saves, rest.1),
          (a, refl, refl, rest.2),
          rest.3,
        )

-- ---- row 1 asks for no reading

row_1 : (i v : ℕ) (m : Machine Answer Driver) (time : List ℕ) (b : Buf) → slots_fit m.st b ≡ false
    → (q : Reg) → asked q (shared_call i (continue v) m time b).0.0 ≡ false
unfolding settled slots_fit
row_1 i v m time b misfits q =
    ap (λ (u : Bool). asked q (cond (not u) (stay calls driver_of 1 m)
    (continued calls driver_of (λ s. s) v m m.under_way_lem b)).0) misfits

unasked : (i v : ℕ) (l : Lent) (x : Step) (k : Lent) → Continues i v l x k → slots_fit (view l.bytes) l.slots
    ≡ false
    → (q : Reg) → asked q (answer_of x [] (view k.bytes)) ≡ false
unasked i v l x k c misfits q =
    ap (λ (z : StepResult × List ℕ). asked q z.0.0) (c.did l.slots)
    ∙ row_1 i v (machine_of l.bytes l.slots) l.time l.slots misfits q

-- so none follow
none-brought : (i : ℕ) (vs : List Reading) (x : Step) (k : Lent) (r : Step) (l : Lent)
    → ((q : Reg) → asks_for q x ≡ false) → Brings i vs x k r l → Over x k r l
none-brought i [] x k r l none h = h
none-brought i (v ∷ vs) x k r l none h =
    subst (λ (u : Bool). When u ((y : Step) × (m : Lent) × Continues i v.value k y m × Brings i vs y m r l)
    (Over x k r l)) (none v.register) h

none-in-turn : (vs : List Reading) (m : MadeShared) → ((q : Reg) → asked q m.answer ≡ false) → InTurn vs m []
none-in-turn [] m none = tt
none-in-turn (v ∷ vs) m none = none v.register

-- ---- a continue, then the readings

abbrev Steps : ℕ → ℕ → List Reading → Lent → Buf → Step → Lent → Type 0
Steps i v vs l a r l' = (first : MadeShared) × (further : List MadeShared) × AreSteps i v vs l a r l' first further

continues-steps : (i v : ℕ) (vs : List Reading) (l : Lent) (r : Step) (l' : Lent) → ContinuesWith i v vs l r l'
    → (a : Buf) → Steps i v vs l a r l'
continues-steps i v vs l r l' h a = by (slots_fit (view l.bytes) l.slots) refl
  where
    x : Step
    x = h.0

    k : Lent
    k = h.1

    e : Event Config Op
    e = event (continue v) l.slots

    -- the run's slot buffer after the first
    then : Bool → Buf
    then u = cond u k.slots a

    first_step : (u : Bool) → slots_fit (view l.bytes) l.slots ≡ u
        → CallStep i l.bytes a (made e l.time x (lent k.bytes (then u) k.time))
    first_step u fits =
        subst (λ (z : Bool). ((answer_of x [] (view k.bytes), machine_of k.bytes (then z)), k.time)
        ≡ shared_call i (continue v) (machine_of l.bytes a) l.time l.slots) fits (h.2.did a)

    -- and after the last
    last : (u : Bool) → slots_fit (view l.bytes) l.slots ≡ u → (m : MadeShared)
        → ComesTo m r l' (cond u l'.slots a)
        → ComesTo m r l' (lent_or (view l.bytes) l.slots l'.slots a)
    last u fits m y = subst (λ (z : Bool). ComesTo m r l' (cond z l'.slots a)) (sym fits) y

    by : (u : Bool) → slots_fit (view l.bytes) l.slots ≡ u → Steps i v vs l a r l'
    by true fits =
        let rest = following i vs e l.time x k r l' h.3 in (
          made e l.time x k,
          rest.0,
          record {
            called = refl;
            before = refl;
            steps = (first_step true fits, kept_by x _ _ _ _ h.2.saves, rest.1);
            turns = rest.2;
            leaves = last true fits (last_of (made e l.time x k) rest.0) rest.3;
            kept = λ misfits. absurd (true≢false (sym fits ∙ misfits));
          },
        )
    by false fits =
        let none = unasked i v l x k h.2 fits in
        let o = none-brought i vs x k r l' (λ q. sym (asked_is q x (view k.bytes)) ∙ none q) h.3 in
        let m = made e l.time x (lent k.bytes a k.time) in (
          m,
          [],
          record {
            called = refl;
            before = refl;
            steps = (first_step false fits, kept_by x _ _ _ _ h.2.saves, tt);
            turns = none-in-turn vs m none;
            leaves = last false fits m (over m x k a r l' (leaves-made e l.time x k a) o);
            kept = λ misfits. sym (as-over x k r l' o) ∙ h.2.kept misfits;
          },
        )

-- ---- a begin of the interrupt, then the readings

abbrev Interrupts : ℕ → Reading → List Reading → Lent → Buf → Buf → Step → Lent → Type 0
Interrupts i v vs l a b r l' = (first : MadeShared) × (further : List MadeShared)
    × InterruptSteps i v vs l a b r l' first further

begins-steps : (i : ℕ) (v : Reading) (vs : List Reading) (l : Lent) (r : Step) (l' : Lent)
    → BeginsWith i (v ∷ vs) l r l'
    → (a b : Buf) → Interrupts i v vs l a b r l'
begins-steps i v vs l r l' h a b =
    by (asks_for v.register x) (asked_is v.register x (view k.bytes))
    (subst (λ (z : Lent). Brings i (v ∷ vs) x z r l') as_lent h.3)
  where
    x : Step
    x = h.0

    k : Lent
    k = lent h.1.bytes l.slots l.time

    as_lent : h.1 ≡ k
    as_lent = λ j. record { bytes = h.1.bytes; slots = h.2.slots j; time = h.2.time j }

    e : Event Config Op
    e = event (begin interrupt) b

    m : MadeShared
    m = made e l.time x (lent k.bytes b l.time)

    did : CallStep i l.bytes a m
    did = ap (λ (z : StepResult). (z, l.time)) (h.2.did a b)
        ∙ sym (leaves-record i (begin interrupt) (machine_of l.bytes a) l.time b refl)

    by : (u : Bool) → asked v.register m.answer ≡ u
        → When u (ContinuesWith i v.value vs k r l') (Over x k r l') → Interrupts i v vs l a b r l'
    by true asks g =
        let rest = continues-steps i v.value vs k r l' g b in (
          m,
          rest.0 ∷ rest.1,
          record {
            called = refl;
            before = refl;
            slots = refl;
            time = refl;
            steps = (did, kept_by x _ _ _ _ h.2.saves, rest.2.steps);
            rest = (asks, rest.2);
          },
        )
    by false asks o = (
      m,
      [],
      record {
        called = refl;
        before = refl;
        slots = refl;
        time = refl;
        steps = (did, kept_by x _ _ _ _ h.2.saves, tt);
        rest = (asks, over m x k b r l' (leaves-made e l.time x k b) o, sym (as-over x k r l' o));
      },
    )

-- ---- the exported calls

pub interrupt-steps : (κs s slots time driver frame flags r z : _)
    → interrupt-contract.Learnt κs (s, (slots, (time, (driver, (frame, (flags, tt)))))) r z
    → Worded r (λ x. (a b : Buf) → (first : MadeShared) × (further : List MadeShared)
    × InterruptSteps driver (reading FrameNo frame) (reading IntFg flags ∷ []) (lent s.now slots.now time.now) a b
    x
    (lent z.0.now z.1.0.now z.1.1.0.now) first further)
interrupt-steps κs s slots time driver frame flags r z h = worded r h (λ x k a b. begins-steps _ _ _ _ _ _ k a b)

pub continue-transfer-steps : (κs s slots time driver mis st len r z : _)
    → continue-transfer-contract.Learnt κs (s, (slots, (time, (driver, (mis, (st, (len, tt))))))) r z
    → Worded r (λ x. (a : Buf) → (first : MadeShared) × (further : List MadeShared)
    × AreSteps driver mis (reading IntSt st ∷ reading RxLen len ∷ []) (lent s.now slots.now time.now) a x
    (lent z.0.now z.1.0.now z.1.1.0.now) first further)
continue-transfer-steps κs s slots time driver mis st len r z h = worded r h (λ x k a. continues-steps _ _ _ _ _ _ k a)

pub interrupt-transfer-steps : (κs s slots time driver frame flags mis st len r z : _)
    → interrupt-transfer-contract.Learnt κs (s, (slots, (time, (driver, (frame, (flags, (mis, (st, (len, tt))))))))) r z
    → Worded r (λ x. (a b : Buf) → (first : MadeShared) × (further : List MadeShared)
    × InterruptSteps driver (reading FrameNo frame)
    (reading IntFg flags ∷ reading MisSt mis ∷ reading IntSt st ∷ reading RxLen len ∷ [])
    (lent s.now slots.now time.now) a b x (lent z.0.now z.1.0.now z.1.1.0.now) first
    further)
interrupt-transfer-steps κs s slots time driver frame flags mis st len r z h =
    worded r h (λ x k a b. begins-steps _ _ _ _ _ _ k a b)

-- after the write that clears the transfer's flag
pub continue-released-steps : (κs s slots time driver frame r z : _)
    → continue-released-contract.Learnt κs (s, (slots, (time, (driver, (frame, tt))))) r z
    → Worded r (λ x. (a : Buf) → (first : MadeShared) × (further : List MadeShared)
    × AreSteps driver 0 (reading FrameNo frame ∷ []) (lent s.now slots.now time.now) a x
    (lent z.0.now z.1.0.now z.1.1.0.now) first further)
continue-released-steps κs s slots time driver frame r z h = worded r h (λ x k a. continues-steps _ _ _ _ _ _ k a)

-- so many looks that read v, and one that read u
pub continue-looks-steps : (κs s slots time driver looks v u r z : _)
    → continue-looks-contract.Learnt κs (s, (slots, (time, (driver, (looks, (v, (u, tt))))))) r z
    → Worded r (λ x. (a : Buf) → (first : MadeShared) × (further : List MadeShared)
    × AreSteps driver (first_look looks v u) (further_looks looks v u) (lent s.now slots.now time.now) a x
    (lent z.0.now z.1.0.now z.1.1.0.now) first further)
continue-looks-steps κs s slots time driver looks v u r z h = worded r h (λ x k a. continues-steps _ _ _ _ _ _ k a)

-- ---- a list of demand 3: what the calls after the first continue are lent is what was left

unchanged : (n : Machine Answer Pages) (b : Buf) → Chip n.st b b
unchanged n b = record { long = refl; others = λ k h. refl }

lent-as-left : (v : ℕ) (n : Machine Answer Pages) (b : Buf) → BufferPreserved (continue v) n b b
lent-as-left v n b = by (misfit calls book.driver n.st b)
  where
    by : (x : Bool) → when_not x (Chip n.st b b)
    by true = tt
    by false = unchanged n b

calls-in-turn : (i : ℕ) (vs : List Reading) (m : MadeShared) (ms : List MadeShared) → InTurn vs m ms
    → Saving i m.bytes m.slots ms
    → (n : Machine Answer Pages) → Calls i m.bytes m.slots n ms
calls-in-turn i [] m [] t s n = tt
calls-in-turn i [] m (k ∷ ks) t s n = absurd t
calls-in-turn i (v ∷ vs) m [] t s n = tt
calls-in-turn i (v ∷ vs) m (k ∷ ks) t s n = (
  s.0,
  subst (λ (e : Event Config Op). BufferPreserved e.call n m.slots e.lent) (sym t.1)
      (lent-as-left v.value n m.slots),
  calls-in-turn i vs k ks t.3 s.2 (noted i k n).1,
)

-- a continue and those after it: the chip's stores are those that the first one's own place in a list asks for
pub continue-calls : (i v : ℕ) (vs : List Reading) (l : Lent) (a : Buf) (r : Step) (l' : Lent) (first : MadeShared)
    (further : List MadeShared)
    → AreSteps i v vs l a r l' first further → (n : Machine Answer Pages) → BufferPreserved (continue v) n a l.slots
    → Calls i l.bytes a n (first ∷ further)
continue-calls i v vs l a r l' first further h n chip = (
  h.steps.0,
  subst (λ (e : Event Config Op). BufferPreserved e.call n a e.lent) (sym h.called) chip,
  calls-in-turn i vs first further h.turns h.steps.2 (noted i first n).1,
)

-- ---- the begin of an interrupt that asks for a reading leaves the book's addresses

-- the interrupt's script, where row 4 does not stop it, or does
abbrev from_stage : Bool → Script true Answer
from_stage u = test u (resultless stamped_interrupt) (ret (Refused 4))

module _ (v : ℕ) (b b' : Buf) (n : Machine Answer Pages) (chip : BufferPreserved (continue v) n b b') where
  woken : (u : Bool) → when_not u (Chip n.st b b') → when_not u
      (Chip (with_kept n.st (kept_wakes n.st.kept (unwoken n.st.kept.wakes))) b b')
  woken true c = tt
  woken false c = record { long = c.long; others = λ k h. c.others k (record { outs = h.outs; ep0 = h.ep0 }) }

  -- told of a reading
  begun-lent : (r : Reg) (e : ℕ) (w : Pending Answer Pages)
      → BufferPreserved (continue v) (begun calls book.driver (fed {A = Answer} book (handed (Read r e))) interrupt n
      w b).1 b b'
  begun-lent r e idle = by (eqb n.st.kept.globals.stage 2)
    where
      by : (u : Bool) → BufferPreserved (continue v) (halt calls book.driver
          (fed {A = Answer} book (handed (Read r e))) true
          (run book.driver.ops (from_stage u) (n.st, b))).1 b b'
      by true = woken (misfit calls book.driver n.st b') chip
      by false = chip
  begun-lent r e (busy true q k) = chip
  begun-lent r e (busy false q k) = chip

  after-begin : (i : ℕ) (x : Ans Answer) (time : List ℕ) (q : Reg) → asked q x ≡ true
      → BufferPreserved (continue v) (shared_step i x (begin interrupt) n time b).1 b b'
  after-begin i (ended x) time q h = absurd (true≢false (sym h))
  after-begin i (told x) time q h = absurd (true≢false (sym h))
  after-begin i (handed (Read r e)) time q h = begun-lent r e n.under_way_lem
  after-begin i (handed (Write r e x)) time q h = absurd (true≢false (sym h))
  after-begin i (handed (Receive e x)) time q h = absurd (true≢false (sym h))
  after-begin i (handed (Transmit e x)) time q h = absurd (true≢false (sym h))
  after-begin i (handed (Ep0Dma x)) time q h = absurd (true≢false (sym h))
  after-begin i (handed (Wait x)) time q h = absurd (true≢false (sym h))
  after-begin i (handed Callback) time q h = absurd (true≢false (sym h))

-- the interrupt's begin and those after it: it is lent b, as its own place in a list asks; the first continue, where it
-- is made, the caller's buffer
pub interrupt-calls : (i : ℕ) (v : Reading) (vs : List Reading) (l : Lent) (a b : Buf) (r : Step) (l' : Lent)
    (first : MadeShared) (further : List MadeShared)
    → InterruptSteps i v vs l a b r l' first further → (n : Machine Answer Pages)
    → BufferPreserved (begin interrupt) n a b
    → (asked v.register first.answer ≡ true → BufferPreserved (continue v.value) n b l.slots)
    → Calls i l.bytes a n (first ∷ further)
interrupt-calls i v vs l a b r l' first further h n begins goes = (
  h.steps.0,
  subst (λ (e : Event Config Op). BufferPreserved e.call n a e.lent) (sym h.called) begins,
  on further h.rest,
)
  where
    on : (ms : List MadeShared) → Followed i v vs l r l' first ms
        → Calls i first.bytes first.slots (noted i first n).1 ms
    on [] f = tt
    on (k ∷ ks) f =
        continue-calls i v.value vs (lent first.bytes l.slots first.time) first.slots r l' k ks f.1
        (noted i first n).1
        (subst (λ (z : Buf). BufferPreserved (continue v.value) (noted i first n).1 z l.slots) (sym h.slots)
        (subst (λ (e : Event Config Op). BufferPreserved (continue v.value)
        (shared_step i first.answer e.call n first.before e.lent).1 b l.slots)
        (sym h.called) (after-begin v.value b l.slots n (goes f.0) i first.answer first.before
        v.register f.0)))

-- the begin lent the run's own buffer: the chip's stores are those of a continue in the call's place
pub interrupt-calls-own : (i : ℕ) (v : Reading) (vs : List Reading) (l : Lent) (a : Buf) (r : Step) (l' : Lent)
    (first : MadeShared) (further : List MadeShared)
    → InterruptSteps i v vs l a a r l' first further → (n : Machine Answer Pages)
    → BufferPreserved (continue v.value) n a l.slots
    → Calls i l.bytes a n (first ∷ further)
interrupt-calls-own i v vs l a r l' first further h n chip
    = interrupt-calls i v vs l a a r l' first further h n (unchanged n a) (λ asks. chip)
