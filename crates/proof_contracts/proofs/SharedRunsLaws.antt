-- Driver and book agree over every list of calls with the record of bus time that an accepted start-up begins
use Rattle.std.specs.Prelude.{List, [], ◌∷◌, ◌≡◌, refl, ℕ, zero}
use Rattle.std.proofs.Common.{subst, sym}
use Rattle.state.specs.State.{view}
use Rattle.state.specs.Driver.{Driver}
use Rattle.script.specs.Simulates.{Phase}
use Rattle.script.specs.Answers.{Answer}
use Rattle.script.specs.Calls.{Config, Op, calls, start_row}
use Rattle.script.specs.Machine.{Buf, Event, start, Machine, Ans, ended, handed, told, fed, started}
use Rattle.script.specs.Agree.{After, Ways, from_start}
use Rattle.machine.specs.Suspended.{driver_of, drive, machine_of}
use Rattle.answer.specs.Goes.{StepResult}
use Rattle.calls.specs.Sharing.{sort_of, time_after, settled, shared_call}
use Rattle.proof_book.specs.Pages.{Pages}
use Rattle.proof_book.specs.Book.{book}
use Rattle.proof_book.specs.Coupling.{Coupling}
use Rattle.proof_book.proofs.StartUpLaws.{fresh_kept}
use Rattle.proof_book.proofs.AgreesLaws.{agree}
use Rattle.proof_contracts.specs.SharedBook.{time_in}
use Rattle.proof_contracts.specs.SharedPage.{MadeShared, CallStep, noted, Calls}
use Rattle.proof_contracts.specs.SharedAgrees.{Agreed, shared-agrees}
use Rattle.proof_contracts.specs.SharedRuns.{AgreedOn, AgreedAll}

of-made : (i : ℕ) (m : MadeShared) (xs : List ℕ) (a : Buf) (n : Machine Answer Pages) → CallStep i xs a m
    → let z = shared_call i m.event.call (machine_of xs a) m.before m.event.lent in
    Agreed i m.event.call z.0 m.before z.1 m.event.lent n → AgreedOn i m n
of-made i m xs a n did k =
    subst (λ (z : StepResult × List ℕ). Agreed i m.event.call z.0 m.before z.1 m.event.lent n)
    (sym did) k

always : (i : ℕ) (ms : List MadeShared) {φ : Phase} (xs : List ℕ) (a : Buf) (n : Machine Answer Pages)
    → Ways driver_of book agree calls φ (machine_of xs a).under_way_lem n.under_way_lem → Coupling φ a (view xs) n.st
    → Calls i xs a n ms
    → AgreedAll i n ms
always i [] xs a n w r h = tt
always i (m ∷ ms) xs a n w r h =
    let k = of-made i m xs a n h.0 (shared-agrees i m.event.call m.event.lent m.before (machine_of xs a)
    n w r h.1) in
    (k, always i ms m.bytes m.slots (noted i m n).1 k.both.ways k.both.rest h.2)

-- ---- an accepted start-up of driver i, from whatever was before

pub shared_start : (i : ℕ) (c : Config) (b : Buf) → start_row c b ≡ zero
    → (m : Machine Answer Driver) (n : Machine Answer Pages) (time : List ℕ)
    → Agreed i (start c) (shared_call i (start c) m time b).0 time (shared_call i (start c) m time b).1 b n
unfolding settled
shared_start i c b row m n time = record {
  both = subst Both (sym row) (from_start driver_of book agree calls fresh_kept c b row [] m n tt).0;
  time = by_answer_lem (drive (start c) m b).0;
}
  where
    Both : ℕ → Type 0
    Both k = let x = started calls driver_of (λ s. s) c k m b in After driver_of book agree calls x
        (started calls book.driver (fed book x.0) c k n b)

    by_answer_lem : (a : Ans Answer)
        → time_after i (sort_of (start c)) a m.st time ≡ time_in i (sort_of (start c)) a n.st time
    by_answer_lem (ended a) = refl
    by_answer_lem (handed q) = refl
    by_answer_lem (told k) = refl

starts : (i : ℕ) (c : Config) (b : Buf) → start_row c b ≡ zero
    → (xs : List ℕ) (a : Buf) (n : Machine Answer Pages) (before : List ℕ) (v : Event Config Op)
    → v ≡ record { call = start c; lent = b }
    → let z = shared_call i v.call (machine_of xs a) before v.lent in Agreed i v.call z.0 before z.1
    v.lent n
starts i c b row xs a n before v e = subst At (sym e) (shared_start i c b row (machine_of xs a) n before)
  where
    At : Event Config Op → Type 0
    At v = let z = shared_call i v.call (machine_of xs a) before v.lent in Agreed i v.call z.0 before z.1
        v.lent n

pub agreed-all : (i : ℕ) (c : Config) (b : Buf) → start_row c b ≡ zero
    → (xs : List ℕ) (a : Buf) (n : Machine Answer Pages) (first : MadeShared)
    → first.event ≡ record { call = start c; lent = b } → (ms : List MadeShared) → Calls i xs a n (first ∷ ms)
    → AgreedAll i n (first ∷ ms)
agreed-all i c b row xs a n first is-start ms run =
    let k = of-made i first xs a n run.0 (starts i c b row xs a n first.before first.event is-start) in
    (k, always i ms first.bytes first.slots (noted i first n).1 k.both.ways k.both.rest run.2)
