-- Laws on the definitions of LateCode.antt
use Rattle.std.specs.Prelude.{Bool, List, [], ◌∷◌, ◌≡◌, refl, ℕ}
use Rattle.std.proofs.Common.{ap, subst, sym, ◌∙◌}
use Rattle.script.specs.Answers.{Answer}
use Rattle.script.specs.Calls.{aside, Open, Close, Queue}
use Rattle.script.specs.Machine.{begin, continue, question, Ans}
use Rattle.proof_isolation.specs.Schedule.{Run}
use Rattle.proof_isolation.proofs.UndisturbedLaws.{step}
use Rattle.proof_isolation.specs.EqualExcept.{Channel}
use Rattle.proof_isolation.proofs.Standing.{At}
use Rattle.proof_isolation.proofs.StandingLaws.{at-time}
use Rattle.proof_isolation.specs.Code.{Left, Held, Pair, run_of, two_of, heard, TurnStep, next, opened_by}
use Rattle.proof_isolation.specs.Code.{after_steps}
use Rattle.proof_isolation.specs.Code.{DidSteps}
use Rattle.proof_isolation.proofs.CodeLaws.{heard-is, unheard-is, own_is, next-by, code-every, opened-is, begun-at}
use Rattle.proof_isolation.proofs.CodeLaws as code
use Rattle.proof_isolation.specs.Late as late
use Rattle.proof_isolation.specs.Late.{Light, opens, closes, queues, asks_of, stored, Item, gets, stopped}
use Rattle.proof_isolation.specs.Late.{goes_own, stores_own, calls_own}
use Rattle.proof_isolation.specs.Late.{goes_back, answers_by, answers_of, lit, gone, item, items, item_answers}
use Rattle.proof_isolation.specs.Late.{later, AllSame, AfterLate}
use Rattle.proof_isolation.proofs.LateRunsLaws.{FreeBoth, turn_free, later_free, opened_free, late_step}
use Rattle.proof_isolation.specs.LateCode.{ItemMade, LateStep, items_of, later_of, light_left, item_left, after_items}
use Rattle.proof_isolation.specs.LateCode.{next_late, after_late_steps}
use Rattle.proof_isolation.specs.LateCode.{answers_made, DidLight, DidItem, DidItems, DidLate, DidLateStep}
use Rattle.proof_isolation.specs.LateCode.{DidLateSteps, HeardMade, EveryLateStep, LateMade, opened_made}
use Rattle.proof_isolation.specs.LateCode.{AllBegunLate, CodeUndisturbed}
use Rattle.proof_isolation.specs.LateCode.{timely, first-late, second-late}

-- ---- the bytes are the machine's

module _ (share : Bool) (n : ℕ) where
  light-is : (o : Light) (l : Left) (h : Held) → DidLight share n o l h → run_of (light_left o l h)
      ≡ lit share n o (run_of h)
  light-is (opens e) l h d = heard-is share n (begin (aside (Open e))) h.slots h l d
  light-is (closes e) l h d = heard-is share n (begin (aside (Close e))) h.slots h l d
  light-is (queues e bs) l h d = heard-is share n (begin (aside (Queue e bs))) h.slots h l d
  light-is (asks_of q) l h d = heard-is share n (question q) h.slots h l d
  light-is (stored p) l h d = refl

  item-is : (i : Item) (l : Left) (h : Held) → DidItem share n i l h → run_of (item_left i l h) ≡ item share n i (run_of h)
  item-is (gets o) l h d = light-is o l h d
  item-is (stopped o b) l h d = heard-is share n (begin (aside o)) b h l d
  item-is (goes_own v) l h d = heard-is share n (continue v) h.slots h l d
  item-is (stores_own b) l h d = refl
  item-is (calls_own e) l h d = own_is share n e.call e.lent h l d
  item-is (goes_back v b) l h d = unheard-is share n (continue v) b h l d

  -- a call's answer is what it left
  light-answer : (o : Light) (l : Left) (h : Held) → DidLight share n o l h → (us : List (Ans Answer))
      → answers_by o l.answer us ≡ answers_by o (lit share n o (run_of h)).answer us
  light-answer (opens e) l h d us = ap (λ (r : Run). r.answer ∷ us) (light-is (opens e) l h d)
  light-answer (closes e) l h d us = ap (λ (r : Run). r.answer ∷ us) (light-is (closes e) l h d)
  light-answer (queues e bs) l h d us = ap (λ (r : Run). r.answer ∷ us) (light-is (queues e bs) l h d)
  light-answer (asks_of q) l h d us = ap (λ (r : Run). r.answer ∷ us) (light-is (asks_of q) l h d)
  light-answer (stored p) l h d us = refl

  item-answer : (i : Item) (l : Left) (h : Held) → DidItem share n i l h → (us : List (Ans Answer))
      → answers_of i l.answer us ≡ answers_of i (item share n i (run_of h)).answer us
  item-answer (gets o) l h d us = light-answer o l h d us
  item-answer (stopped o b) l h d us = ap (λ (r : Run). r.answer ∷ us) (item-is (stopped o b) l h d)
  item-answer (goes_own v) l h d us = refl
  item-answer (stores_own b) l h d us = refl
  item-answer (calls_own e) l h d us = refl
  item-answer (goes_back v b) l h d us = refl

  items-are : (is : List ItemMade) (h : Held) → DidItems share n is h → run_of (after_items is h)
      ≡ items share n (items_of is) (run_of h)
  items-are [] h d = refl
  items-are (i ∷ is) h d = items-are is (item_left i.item i.left h) d.1
      ∙ ap (items share n (items_of is)) (item-is i.item i.left h d.0)

  items-told : (is : List ItemMade) (h : Held) → DidItems share n is h → answers_made is
      ≡ item_answers share n (items_of is) (run_of h)
  items-told [] h d = refl
  items-told (i ∷ is) h d = item-answer i.item i.left h d.0 (answers_made is)
      ∙ ap (answers_of i.item (item share n i.item (run_of h)).answer)
      (items-told is (item_left i.item i.left h) d.1
      ∙ ap (item_answers share n (items_of is)) (item-is i.item i.left h d.0))

  module _ {v v' : ℕ} {l l' : Left} {is es : List ItemMade} {h h' : Held}
      (d : DidLate share n v v' l l' is es h h') where
    late_is : run_of (after_items is (heard l h)) ≡ items share n (items_of is) (gone share n v (run_of h))
    late_is = items-are is (heard l h) d.items ∙ ap (items share n (items_of is))
        (heard-is share n (continue v) h.slots h l d.goes)

    other-is : run_of (heard l' (after_items es h')) ≡ gone share n v' (items share n (items_of es) (run_of h'))
    other-is = heard-is share n (continue v') (after_items es h').slots (after_items es h') l' d.goes'
        ∙ ap (gone share n v') (items-are es h' d.early)

    late-told : answers_made is ≡ item_answers share n (items_of is) (gone share n v (run_of h))
    late-told = items-told is (heard l h) d.items ∙ ap (item_answers share n (items_of is))
        (heard-is share n (continue v) h.slots h l d.goes)

    other-told : answers_made es ≡ item_answers share n (items_of es) (run_of h')
    other-told = items-told es h' d.early

  next-late : (s : LateStep) (w : Pair) → DidLateStep share n s w → two_of (next_late s w)
      ≡ later share n (later_of s) (two_of w)
  next-late (timely s) w d = next-by share n s.turn s.first s.second w d
  next-late (first-late v v' l is es l') w d = λ i. record {
    first = late_is d i;
    second = other-is d i;
    status
        = w.status;
  }
  next-late (second-late v v' l is es l') w d = λ i. record {
    first = other-is d i;
    second = late_is d i;
    status
        = w.status;
  }

  heard-made : (c : Channel) (s : LateStep) (w : Pair) → DidLateStep share n s w
      → late.Heard c share n (later_of s) (two_of w) → HeardMade share n c s
  heard-made c (timely s) w d h = tt
  heard-made c (first-late v v' l is es l') w d h = subst (λ x. AllSame c.number x (answers_made es))
      (sym (late-told d))
      (subst (λ x. AllSame c.number (item_answers share n (items_of is) (gone share n v (run_of w.first))) x)
      (sym (other-told d)) h)
  heard-made c (second-late v v' l is es l') w d h = subst (λ x. AllSame c.number x (answers_made is))
      (sym (other-told d))
      (subst (λ x. AllSame c.number (item_answers share n (items_of es) (run_of w.first)) x) (sym (late-told d)) h)

  -- ---- the theorem

  code-every-late : (c : Channel) (ss : List LateStep) (w : Pair) → At c (two_of w) → FreeBoth c share n (two_of w)
      → DidLateSteps share n c ss w
      → EveryLateStep share n c ss w × At c (two_of (after_late_steps ss w))
  code-every-late c [] w a f d = (tt, a)
  code-every-late c (s ∷ ss) w a f d =
      let y = late_step c share n (later_of s) a f d.1 in
      let e : later share n (later_of s) (two_of w) ≡ two_of (next_late s w) = sym (next-late s w d.0) in
      let z = code-every-late c ss (next_late s w) (subst (At c) e y.stand)
      (subst (FreeBoth c share n) e (later_free c share n (later_of s) (two_of w) a d.1 f)) d.2 in
      ((heard-made c s w d.0 y.heard, subst (AfterLate c share n (later_of s)) e y.after_it, z.0), z.1)

  steps-free : (c : Channel) (ss : List TurnStep) (w : Pair) → At c (two_of w) → FreeBoth c share n (two_of w)
      → DidSteps share n c ss w
      → FreeBoth c share n (two_of (after_steps ss w))
  steps-free c [] w a f d = f
  steps-free c (s ∷ ss) w a f d =
      let e = sym (next-by share n s.turn s.first s.second w d.0) in
      steps-free c ss (next s w) (subst (At c) e (step c share n s.turn a d.1).stand)
      (subst (FreeBoth c share n) e (turn_free c share n s.turn (two_of w) a d.1 f)) d.2

  -- any bytes in each of two runs with one record of the bus time; start-ups, and calls whose contracts say what they
  -- are steps of
  pub code-undisturbed : (ms : List LateMade) (w : Pair) → w.first.time ≡ w.second.time → AllBegunLate share n ms w
      → CodeUndisturbed share n ms w
  code-undisturbed [] w e o = tt
  code-undisturbed (m ∷ ms) w e o =
      let c = m.opening.channel in
      let x = code-every share n c m.opening.steps (opened_by m.opening w)
      (begun-at share n m.opening w o.0 e) o.0.steps in
      let k = opened-is share n m.opening w o.0 in
      let f = steps-free c m.opening.steps (opened_by m.opening w) (begun-at share n m.opening w o.0 e)
      (subst (FreeBoth c share n) k (opened_free c share n _ (two_of w) e (code.opens share n m.opening w o.0)))
      o.0.steps in
      let z = code-every-late c m.steps (opened_made share n m w) x.1 f o.1 in
      (x.0, z.0, code-undisturbed ms (after_late_steps m.steps (opened_made share n m w)) (at-time z.1) o.2)
