-- Laws on the definitions of Code.antt
use Rattle.std.specs.Prelude.{Bool, true, false, List, [], ◌∷◌, ◌≡◌, refl, ℕ}
use Rattle.std.proofs.Common.{ap, subst, sym, ◌∙◌}
use Rattle.state.specs.Driver.{Driver}
use Rattle.script.specs.Calls.{Config, Op}
use Rattle.script.specs.Machine.{Buf, Call, start, begin, continue, question, idle}
use Rattle.machine.specs.Suspended.{machine_of}
use Rattle.proof_book.specs.MachineRuns.{Premise}
use Rattle.proof_book.specs.Sorting.{sorts_of}
use Rattle.proof_isolation.specs.EqualExcept.{Channel}
use Rattle.proof_isolation.specs.Schedule.{Run, Two, Turn, begins, goes, asked, stores, others_time, first}
use Rattle.proof_isolation.specs.Schedule.{second, first-refused, second-refused, run_by, own_by, shared, apart}
use Rattle.proof_isolation.specs.Schedule.{called, alone, turn, first_of, second_of, given, heeded, After}
use Rattle.proof_isolation.proofs.Standing.{At}
use Rattle.proof_isolation.proofs.StandingLaws.{at-time}
use Rattle.proof_isolation.specs.FreshBook.{fresh_book}
use Rattle.proof_isolation.specs.Undisturbed.{started_up, opened, AlikeBefore, Opens}
use Rattle.proof_isolation.proofs.UndisturbedLaws.{step, opened-at}
use Rattle.proof_isolation.specs.TimeLaws.{as-shared, as-driver}
use Rattle.proof_isolation.specs.Code.{Left, Held, Pair, run_of, two_of, CallStep, heard, unheard, heard_own}
use Rattle.proof_isolation.specs.Code.{TurnStep, next_by, next, EarlyMade}
use Rattle.proof_isolation.specs.Code.{early, after_early, SessionMade, session_of, started_by, opened_by, after_steps}
use Rattle.proof_isolation.specs.Code.{DidBy, DidEarly}
use Rattle.proof_isolation.specs.Code.{DidSteps, EveryStep, Begun, AllBegun, CodeTimely, got, shared_by}

-- ---- the bytes are the machine's

call-of : (share : Bool) (n : ℕ) (d : Call Config Op) (b : Buf) (h : Held) (l : Left) → CallStep share n d b h l
    → ((l.answer, machine_of l.bytes l.slots), l.time)
    ≡ shared share n d (machine_of h.bytes h.slots) h.time b
call-of true n d b h l e = e ∙ sym (as-shared n d (machine_of h.bytes h.slots) h.time b)
call-of false n d b h l e =
    let p : (l.answer, machine_of l.bytes l.slots) ≡ (shared false n d (machine_of h.bytes h.slots) h.time
    b).0 =
    e.0 ∙ sym (as-driver n d (machine_of h.bytes h.slots) h.time b) in
    λ i. (p i, e.1 i)

module _ (share : Bool) (n : ℕ) where
  pub heard-is : (d : Call Config Op) (b : Buf) (h : Held) (l : Left) → CallStep share n d b h l → run_of (heard l h)
      ≡ called share n d b (run_of h)
  heard-is d b h l e = ap (run_by h.access) (call-of share n d b h l e)

  pub own_is : (d : Call Config Op) (b : Buf) (h : Held) (l : Left) → CallStep share n d b h l → run_of (heard_own d l h)
      ≡ alone share n d b (run_of h)
  own_is (continue v) b h l e = heard-is (continue v) b h l e
  own_is (begin o) b h l e = ap (own_by h.access h.answer) (call-of share n (begin o) b h l e)
  own_is (start k) b h l e = ap (own_by h.access h.answer) (call-of share n (start k) b h l e)
  own_is (question q) b h l e = ap (own_by h.access h.answer) (call-of share n (question q) b h l e)

  pub unheard-is : (d : Call Config Op) (b : Buf) (h : Held) (l : Left) → CallStep share n d b h l → run_of (unheard l h)
      ≡ apart share n d b (run_of h)
  unheard-is d b h l e = ap (own_by h.access h.answer) (call-of share n d b h l e)

  pair_is : {r r' z z' : Run} → r ≡ z → r' ≡ z' → (st : ℕ)
      → ◌≡◌ {A = Two} (record { first = r; second = r'; status = st }) (record { first = z; second = z'; status = st })
  pair_is p p' st = λ i. record { first = p i; second = p' i; status = st }

  pub next-by : (t : Turn) (l l' : Left) (w : Pair) → DidBy share n t l l' w → two_of (next_by t l l' w)
      ≡ turn share n t (two_of w)
  next-by (begins st o b b') l l' w e = pair_is (heard-is (begin o) b w.first l e.0)
      (heard-is (begin o) b' w.second l' e.1) _
  next-by (goes v v' b b') l l' w e = pair_is (heard-is (continue v) b w.first l e.0)
      (heard-is (continue v') b' w.second l' e.1) _
  next-by (asked q b b') l l' w e = pair_is (heard-is (question q) b w.first l e.0)
      (heard-is (question q) b' w.second l' e.1) _
  next-by (stores b b') l l' w e = refl
  next-by (others_time f) l l' w e = refl
  next-by (first e) l l' w d = pair_is (own_is e.call e.lent w.first l d) refl _
  next-by (second e) l l' w d = pair_is refl (own_is e.call e.lent w.second l' d) _
  next-by (first-refused v b) l l' w d = pair_is (unheard-is (continue v) b w.first l d) refl _
  next-by (second-refused v b) l l' w d = pair_is refl (unheard-is (continue v) b w.second l' d) _

  early-is : (ms : List EarlyMade) (w : Pair) → DidEarly share n ms w
      → two_of (after_early ms w) ≡ record {
        first = given share n (first_of (early ms)) (run_of w.first);
        second = given share n (second_of (early ms)) (run_of w.second);
        status = w.status;
      }
  early-is [] w e = refl
  early-is (got d b b' l l' ∷ ms) w e =
      early-is ms _ e.2 ∙ pair_is (ap (given share n (first_of (early ms))) (heard-is d b w.first l e.0))
      (ap (given share n (second_of (early ms))) (heard-is d b' w.second l' e.1)) _
  early-is (shared_by f ∷ ms) w e = early-is ms _ e

  -- ---- the theorem

  pub code-every : (c : Channel) (ss : List TurnStep) (w : Pair)
      → At c (two_of w) → DidSteps share n c ss w → EveryStep share n c ss w × At c (two_of (after_steps ss w))
  code-every c [] w a d = (tt, a)
  code-every c (s ∷ ss) w a d =
      let y = step c share n s.turn a d.1 in
      let e : turn share n s.turn (two_of w) ≡ two_of (next s w)
      = sym (next-by s.turn s.first s.second w d.0) in
      let z = code-every c ss (next s w) (subst (At c) e y.stand) d.2 in
      ((subst (After c s.turn) e y.after_it, z.0), z.1)

  module _ (m : SessionMade) (w : Pair) (o : Begun share n m w) where
    up_is : run_of (started_by m w).first ≡ started_up share n m.config m.lent (run_of w.first)
    up_is = heard-is (start m.config) m.lent w.first m.up o.up

    up-is' : run_of (started_by m w).second ≡ started_up share n m.config m.lent' (run_of w.second)
    up-is' = heard-is (start m.config) m.lent' w.second m.up' o.up'

    pub opened-is : opened share n (session_of m) (two_of w) ≡ two_of (opened_by m w)
    opened-is =
        pair_is (ap (given share n (first_of (early m.before))) (sym up_is))
        (ap (given share n (second_of (early m.before))) (sym up-is')) 0
        ∙ sym (early-is m.before (started_by m w) o.made)

    abbrev alike_at : Driver → Run → Run → Type 0
    alike_at d r r' = AlikeBefore share n m.channel d m.config m.lent m.lent' (early m.before) r r'

    -- but for the turns
    pub opens : Opens share n (record {
      config = m.config;
      lent = m.lent;
      lent' = m.lent';
      before = early m.before;
      channel = m.channel;
      turns = [];
    }) (two_of w)
    opens = record {
      accepted = o.accepted;
      lawful = subst (λ (r : Run). Premise (heeded share n (first_of (early m.before)) r) r.machine
          (fresh_book m.config m.lent r.answer)) up_is o.lawful;
      rests = subst (λ (z : Two). z.first.machine.under_way_lem ≡ idle) (sym opened-is) o.rests;
      stage = subst (λ (z : Two). z.first.machine.st.globals.stage ≡ 2) (sym opened-is) o.stage;
      sorts = subst (λ (z : Two). m.channel.iso ≡ sorts_of z.first.machine.st) (sym opened-is) o.sorts;
      alike = subst (λ (z : Two). alike_at z.first.machine.st
          (started_up share n m.config m.lent (run_of w.first))
          (started_up share n m.config m.lent' (run_of w.second))) (sym opened-is)
          (subst (λ (r : Run). alike_at (run_of (opened_by m w).first).machine.st r
          (started_up share n m.config m.lent' (run_of w.second))) up_is
          (subst (λ (r : Run). alike_at (run_of (opened_by m w).first).machine.st (run_of (started_by m w).first) r)
          up-is' o.alike));
      allowed = tt;
    }

    pub begun-at : w.first.time ≡ w.second.time → At m.channel (two_of (opened_by m w))
    begun-at e = subst (At m.channel) opened-is (opened-at share n _ (two_of w) e opens)

  -- any bytes in each of two runs with one record of the bus time; start-ups, and calls whose contracts say what they
  -- are steps of
  pub code-timely : (ms : List SessionMade) (w : Pair) → w.first.time ≡ w.second.time → AllBegun share n ms w
      → CodeTimely share n ms w
  code-timely [] w e o = tt
  code-timely (m ∷ ms) w e o =
      let z = code-every m.channel m.steps (opened_by m w) (begun-at m w o.0 e) o.0.steps in
      (z.0, code-timely ms _ (at-time z.1) o.1)
