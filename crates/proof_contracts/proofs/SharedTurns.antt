-- Demand 3 with the record of bus time, of the machine that the state's bytes are: over every list of calls that an
-- accepted start-up begins
use Rattle.std.specs.Prelude.{List, [], ◌∷◌, ◌≡◌, refl, ℕ, zero}
use Rattle.std.proofs.Common.{ap, subst, sym}
use Rattle.state.specs.Driver.{Driver}
use Rattle.script.specs.Simulates.{Phase}
use Rattle.script.specs.Answers.{Answer}
use Rattle.script.specs.Calls.{Config, Op, calls, start_row}
use Rattle.script.specs.Machine.{Buf, Call, Event, Machine}
use Rattle.script.specs.Agree.{Ways}
use Rattle.machine.specs.Suspended.{driver_of, drive}
use Rattle.answer.specs.Goes.{StepResult}
use Rattle.proof_book.specs.Pages.{Pages}
use Rattle.proof_book.specs.Book.{book}
use Rattle.proof_book.specs.Coupling.{Coupling}
use Rattle.proof_book.proofs.AgreesLaws.{agree}
use Rattle.proof_book.specs.FrontPage.{book_step, AfterCall}
use Rattle.proof_book.specs.MachineRuns as alone
use Rattle.proof_book.proofs.FrontPageLaws.{machine-demand-3}
use Rattle.proof_contracts.specs.SharedPage.{AfterShared}
use Rattle.proof_contracts.specs.SharedAgrees.{Agreed, shared-agrees}
use Rattle.proof_contracts.proofs.SharedRunsLaws.{shared_start}
use Rattle.proof_contracts.specs.SharedCall.{is_stopped, call_alone, answer_alone}
use Rattle.proof_contracts.specs.SharedCall.{lent-alone, noted-alone, did-alone, as-shared}
use Rattle.proof_contracts.proofs.SharedDemand3.{stopped-after}
use Rattle.proof_contracts.specs.SharedMachine.{Turn, starting, comes_to, book_after, Premise, AfterTurns}

module _ (i : ℕ) where
  -- the call as the driver alone gets it
  abbrev event_alone : Turn → Machine Answer Driver → Event Config Op
  event_alone t m = record {
    call = call_alone (is_stopped i t.event.call m t.before t.event.lent) t.event.call;
    lent = t.event.lent;
  }

  abbrev all_alone : List Turn → Machine Answer Driver → List (Event Config Op)
  all_alone [] m = []
  all_alone (t ∷ ts) m = event_alone t m ∷ all_alone ts (comes_to i t m).0.1

  abbrev Both : Type 0
  Both = Machine Answer Driver × Machine Answer Pages

  -- ---- one call

  module _ (t : Turn) (m : Machine Answer Driver) (n : Machine Answer Pages) where
    abbrev c : Call Config Op
    c = t.event.call

    abbrev b : Buf
    b = t.event.lent

    abbrev x : StepResult
    x = (comes_to i t m).0

    abbrev own : Call Config Op
    own = (event_alone t m).call

    -- as the driver alone answers it
    abbrev as_alone : StepResult
    as_alone = (answer_alone (is_stopped i c m t.before b) m.st x.0, x.1)

    abbrev Goes : Type 0
    Goes = book_after i t m n ≡ (book_step as_alone.0 own n b).1

    did : as_alone ≡ drive own m b
    did = did-alone i c b t.before m (comes_to i t m) refl

    module _ (goes : Goes) where
      moved : ◌≡◌ {A = Both} (x.1, book_after i t m n) ((drive own m b).1, (book_step (drive own m b).0 own n b).1)
      moved = subst (λ (z : StepResult). ◌≡◌ {A = Both} (x.1, book_after i t m n) (z.1, (book_step z.0 own n b).1))
          did
          (ap (λ (y : Machine Answer Pages). (x.1, y)) goes)

      after : Agreed i c x t.before (comes_to i t m).1 b n
          → AfterCall own b n (drive own m b).0 (drive own m b).1.st (drive own m b).1.buf
          (book_step (drive own m b).0 own n b).1.st
          → AfterShared i t.event t.before (comes_to i t m) n
      after k y = record {
        call = as-shared i c b t.before m (comes_to i t m) refl n
            (λ c z u. AfterCall c b n z x.1.st x.1.buf u)
            (λ dir e k y. stopped-after dir e b x.1.buf n x.1.st k y) goes
            (subst (λ (z : StepResult). AfterCall own b n z.0 z.1.st z.1.buf
            (book_step z.0 own n b).1.st)
            (sym did) y);
        answers = k.both.same;
        time = k.time;
      }

  -- ---- every list of calls

  module _ (t : Turn) {φ : Phase} (m : Machine Answer Driver) (n : Machine Answer Pages)
      (w : Ways driver_of book agree calls φ m.under_way_lem n.under_way_lem) (r : Coupling φ m.buf m.st n.st)
      (ts : List Turn) (p : Premise i (t ∷ ts) m n) where
    agreed : Agreed i t.event.call (comes_to i t m).0 t.before (comes_to i t m).1 t.event.lent n
    agreed = shared-agrees i t.event.call t.event.lent t.before m n w r p.0

    goes_on_lem : Goes t m n
    goes_on_lem = noted-alone i t.event.call t.event.lent t.before m n w r p.0 (comes_to i t m).0.0

  premise-alone : (ts : List Turn) {φ : Phase} (m : Machine Answer Driver) (n : Machine Answer Pages)
      → Ways driver_of book agree calls φ m.under_way_lem n.under_way_lem → Coupling φ m.buf m.st n.st
      → Premise i ts m n
      → alone.Premise (all_alone ts m) m n
  premise-alone [] m n w r p = tt
  premise-alone (t ∷ ts) m n w r p =
      let k = agreed t m n w r ts p in (
        lent-alone i t.event.call t.event.lent t.before m n r p.0,
        subst (λ (z : Both). alone.Premise (all_alone ts (comes_to i t m).0.1) z.0 z.1)
            (moved t m n (goes_on_lem t m n w r ts p))
            (premise-alone ts (comes_to i t m).0.1 (book_after i t m n) k.both.ways k.both.rest p.1),
      )

  after-turns : (ts : List Turn) {φ : Phase} (m : Machine Answer Driver) (n : Machine Answer Pages)
      → Ways driver_of book agree calls φ m.under_way_lem n.under_way_lem → Coupling φ m.buf m.st n.st
      → Premise i ts m n
      → alone.AfterEvents (all_alone ts m) m n → AfterTurns i ts m n
  after-turns [] m n w r p y = tt
  after-turns (t ∷ ts) m n w r p y =
      let k = agreed t m n w r ts p in
      let goes = goes_on_lem t m n w r ts p in (
        after t m n goes k y.0,
        after-turns ts (comes_to i t m).0.1 (book_after i t m n) k.both.ways k.both.rest p.1
            (subst (λ (z : Both). alone.AfterEvents (all_alone ts (comes_to i t m).0.1) z.0 z.1)
            (sym (moved t m n goes)) y.1),
      )

  -- an accepted start-up, which row 19 does not stop, on whatever was before; and any calls
  pub machine-shared-demand-3 : (g : Config) (lent : Buf) → start_row g lent ≡ zero → (before : List ℕ) (ts : List Turn)
      (m : Machine Answer Driver) (n : Machine Answer Pages)
      → Premise i (starting g lent before ∷ ts) m n → AfterTurns i (starting g lent before ∷ ts) m n
  machine-shared-demand-3 g lent row before ts m n p =
      let k = shared_start i g lent row m n before in
      let s = moved first m n refl in
      let y = machine-demand-3 g lent row (all_alone ts m') m n (
        tt,
        subst
            (λ (z : Both). alone.Premise (all_alone ts m') z.0 z.1) s
            (premise-alone ts m' (book_after i first m n) k.both.ways k.both.rest p.1),
      ) in (
        after first m n refl k y.0,
        after-turns ts m' (book_after i first m n) k.both.ways k.both.rest p.1
            (subst (λ (z : Both). alone.AfterEvents (all_alone ts m') z.0 z.1) (sym s) y.1),
      )
    where
      first : Turn
      first = starting g lent before

      m' : Machine Answer Driver
      m' = (comes_to i first m).0.1
