-- A list of calls with the record of bus time is one of the driver alone, in which a call that row 19 stops is a
-- question: so what is proved of the
-- code over every list of calls without the record (Calls in proof_book/specs/FrontPage.antt) holds of it too
use Rattle.std.specs.Prelude.{List, [], ◌∷◌, ◌≡◌, refl, ℕ, zero}
use Rattle.std.proofs.Common.{subst, sym}
use Rattle.state.specs.State.{view}
use Rattle.script.specs.Simulates.{Phase}
use Rattle.script.specs.Answers.{Answer}
use Rattle.script.specs.Calls.{Config, Op, calls, start_row}
use Rattle.script.specs.Machine.{Buf, Event, start, Machine}
use Rattle.script.specs.Agree.{Ways}
use Rattle.machine.specs.Suspended.{driver_of, machine_of}
use Rattle.proof_book.specs.Pages.{Pages}
use Rattle.proof_book.specs.Book.{book}
use Rattle.proof_book.specs.Coupling.{Coupling}
use Rattle.proof_book.proofs.AgreesLaws.{agree}
use Rattle.proof_book.specs.FrontPage.{BufferPreserved}
use Rattle.proof_book.specs.FrontPage as page
use Rattle.proof_contracts.specs.SharedPage.{MadeShared, outcome_of, noted, Calls}
use Rattle.proof_contracts.specs.SharedCall.{lent-alone, noted-alone, did-alone}
use Rattle.proof_contracts.specs.SharedRuns.{AgreedAll}
use Rattle.proof_contracts.proofs.SharedRunsLaws.{agreed-all}
use Rattle.proof_contracts.specs.SharedAlone.{made_alone, all_alone, NotedAll, with_event}

noted-all : (i : ℕ) (ms : List MadeShared) {φ : Phase} (xs : List ℕ) (a : Buf) (n : Machine Answer Pages)
    → Ways driver_of book agree calls φ (machine_of xs a).under_way_lem n.under_way_lem → Coupling φ a (view xs) n.st
    → Calls i xs a n ms
    → AgreedAll i n ms → NotedAll i xs a n ms
noted-all i [] xs a n w r h k = tt
noted-all i (m ∷ ms) xs a n w r h k = (
  noted-alone i m.event.call m.event.lent m.before (machine_of xs a) n w r h.1 m.answer,
  lent-alone i m.event.call m.event.lent m.before (machine_of xs a) n r h.1,
  noted-all i ms m.bytes m.slots (noted i m n).1 k.0.both.ways
      k.0.both.rest h.2 k.1,
)

calls_alone : (i : ℕ) (ms : List MadeShared) (xs : List ℕ) (a : Buf) (n : Machine Answer Pages) → Calls i xs a n ms
    → NotedAll i xs a n ms → page.Calls xs a n (all_alone i xs a ms)
calls_alone i [] xs a n h k = tt
calls_alone i (m ∷ ms) xs a n h k = (
  did-alone i m.event.call m.event.lent m.before (machine_of xs a) (outcome_of m) h.0,
  k.1,
  subst (λ (z : Machine Answer Pages). page.Calls m.bytes m.slots z (all_alone i m.bytes m.slots ms)) k.0
      (calls_alone i ms m.bytes m.slots (noted i m n).1 h.2 k.2),
)

start-noted : (i : ℕ) (c : Config) (b : Buf) (xs : List ℕ) (a : Buf) (n : Machine Answer Pages) (m : MadeShared)
    → m.event ≡ record { call = start c; lent = b }
    → (noted i m n).1 ≡ (page.book_after (made_alone i xs a m) n).1
start-noted i c b xs a n m e =
    subst (λ (v : Event Config Op). (noted i (with_event m v) n).1 ≡ (page.book_after (made_alone i xs a (with_event m v)) n
    ).1) (sym e) refl

start-lent : (i : ℕ) (c : Config) (b : Buf) (xs : List ℕ) (a : Buf) (n : Machine Answer Pages) (m : MadeShared)
    → m.event ≡ record { call = start c; lent = b } → BufferPreserved (made_alone i xs a m).event.call n a
    m.event.lent
start-lent i c b xs a n m e =
    subst (λ (v : Event Config Op). BufferPreserved (made_alone i xs a (with_event m v)).event.call n a v.lent)
    (sym e) tt

pub start-alone : (i : ℕ) (c : Config) (b : Buf) (xs : List ℕ) (a : Buf) (m : MadeShared)
    → m.event ≡ record { call = start c; lent = b }
    → (made_alone i xs a m).event ≡ record { call = start c; lent = b }
start-alone i c b xs a m e =
    subst (λ (v : Event Config Op). (made_alone i xs a (with_event m v)).event ≡ record { call = start c; lent = b })
    (sym e) refl

-- from an accepted start-up on
pub all_noted : (i : ℕ) (c : Config) (b : Buf) → start_row c b ≡ zero
    → (xs : List ℕ) (a : Buf) (n : Machine Answer Pages) (first : MadeShared)
    → first.event ≡ record { call = start c; lent = b } → (ms : List MadeShared) → Calls i xs a n (first ∷ ms)
    → NotedAll i xs a n (first ∷ ms)
all_noted i c b row xs a n first is-start ms run =
    let k = agreed-all i c b row xs a n first is-start ms run in (
      start-noted i c b xs a n first is-start,
      start-lent i c b xs a n first is-start,
      noted-all i ms first.bytes first.slots (noted i first n).1
          k.0.both.ways k.0.both.rest run.2 k.1,
    )

pub code-alone : (i : ℕ) (c : Config) (b : Buf) → start_row c b ≡ zero
    → (xs : List ℕ) (a : Buf) (n : Machine Answer Pages) (first : MadeShared)
    → first.event ≡ record { call = start c; lent = b } → (ms : List MadeShared) → Calls i xs a n (first ∷ ms)
    → page.Calls xs a n (all_alone i xs a (first ∷ ms))
code-alone i c b row xs a n first is-start ms run =
    calls_alone i (first ∷ ms) xs a n run (all_noted i c b row xs a n first is-start ms run)
