-- Demand 3 of the Rattle code: what its calls make of the lent bytes. The contract of each call says that it is one
-- step of the machine of calls that the bytes are (machine/specs/Suspended.antt). Driver and book agree after every call
-- of every list
use Rattle.std.specs.Prelude.{List, [], ◌∷◌, ◌≡◌, ℕ, zero}
use Rattle.std.proofs.Common.{sym, subst, ◌∙◌, ap}
use Rattle.state.specs.State.{view}
use Rattle.script.specs.Simulates.{Phase}
use Rattle.script.specs.Answers.{Answer}
use Rattle.script.specs.Calls.{Config, Op, calls, start_row}
use Rattle.script.specs.Machine.{Buf, Event, Machine, start, fed, started}
use Rattle.script.specs.Agree.{After, LentAlike, Ways, agrees, write_up, from_start}
use Rattle.machine.specs.Suspended.{driver_of, drive, machine_of}
use Rattle.proof_book.specs.Pages.{Pages}
use Rattle.proof_book.specs.Book.{book}
use Rattle.proof_book.specs.Coupling.{Coupling}
use Rattle.proof_book.proofs.StartUpLaws.{fresh_kept}
use Rattle.proof_book.proofs.AgreesLaws.{agree}
use Rattle.proof_book.specs.FrontPage.{CallRecord, CallStep, book_after}

-- calls one after the other, each as its contract says, and each lent the slot buffer as the last one left it but for
-- the chip's stores
abbrev pub Run : List ℕ → Buf → Machine Answer Pages → List CallRecord → Type 0
Run xs a n [] = Unit {0}
Run xs a n (m ∷ ms) = CallStep xs a m
    × (LentAlike driver_of book agree calls m.event.call (machine_of xs a) n m.event.lent
    × Run m.bytes m.slots (book_after m n).1 ms)

-- code and book agree after each call
abbrev pub Agreed : Machine Answer Pages → List CallRecord → Type 0
Agreed n [] = Unit {0}
Agreed n (m ∷ ms) = After driver_of book agree calls (m.answer, machine_of m.bytes m.slots) (book_after m n)
    × Agreed (book_after m n).1 ms

code-always : (ms : List CallRecord) (xs : List ℕ) (a : Buf) (n : Machine Answer Pages) {φ : Phase}
    → Ways driver_of book agree calls φ (machine_of xs a).under_way_lem n.under_way_lem → Coupling φ a (view xs) n.st
    → Run xs a n ms → Agreed n ms
code-always [] xs a n w r h = tt
code-always (m ∷ ms) xs a n w r h =
    let k : After driver_of book agree calls (m.answer, machine_of m.bytes m.slots) (book_after m n)
    = subst (λ z. After driver_of book agree calls z (write_up driver_of book agree calls z.0 m.event.call n
    m.event.lent)) (sym h.0)
    (agrees driver_of book agree calls fresh_kept m.event.call m.event.lent (machine_of xs a) n w r h.1.0) in
    (k, code-always ms m.bytes m.slots (book_after m n).1 k.ways k.rest h.1.1)

start-step : (c : Config) (b : Buf) (row : start_row c b ≡ zero) (xs : List ℕ) (a : Buf)
    → drive (start c) (machine_of xs a) b ≡ started calls driver_of (λ s. s) c zero (machine_of xs a) b
start-step c b row xs a = ap (λ n. started calls driver_of (λ s. s) c n (machine_of xs a) b) row

-- any bytes, a start-up that rows 1 and 2 do not stop, and then any calls whose contracts say what they are steps of
pub code-demand3 : (c : Config) (b : Buf) → start_row c b ≡ zero
    → (xs : List ℕ) (a : Buf) (n : Machine Answer Pages) (first : CallRecord)
    → first.event ≡ record { call = start c; lent = b } → CallStep xs a first → (ms : List CallRecord)
    → let y = started calls book.driver (fed book first.answer) c zero n b in
    Run first.bytes first.slots y.1 ms → After driver_of book agree calls
    (first.answer, machine_of first.bytes first.slots) y × Agreed y.1 ms
code-demand3 c b row xs a n first e did ms run =
    let q : (first.answer, machine_of first.bytes first.slots)
    ≡ started calls driver_of (λ s. s) c zero (machine_of xs a) b
    = subst
    (λ (v : Event Config Op). (first.answer, machine_of first.bytes first.slots)
    ≡ drive v.call (machine_of xs a) v.lent) e did ∙ start-step c b row xs a in
    let k : After driver_of book agree calls (first.answer, machine_of first.bytes first.slots)
    (started calls book.driver (fed book first.answer) c zero n b)
    = subst (λ z. After driver_of book agree calls z (started calls book.driver (fed book z.0) c zero n b)) (sym q)
    (from_start driver_of book agree calls fresh_kept c b row [] (machine_of xs a) n tt).0 in
    (k, code-always ms first.bytes first.slots _ k.ways k.rest run)
