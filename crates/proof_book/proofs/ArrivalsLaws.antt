-- "What an arrival is" over every list of calls of the code (Arrivals.antt)
use Rattle.std.specs.Prelude.{List, [], ◌∷◌, ◌≡◌, ℕ, zero}
use Rattle.std.proofs.Common.{subst, sym, ◌∙◌}
use Rattle.state.specs.State.{view}
use Rattle.state.specs.Driver.{Driver}
use Rattle.script.specs.Simulates.{Phase}
use Rattle.script.specs.Answers.{Answer}
use Rattle.script.specs.Calls.{Config, Op, calls, start_row}
use Rattle.script.specs.Machine.{Buf, Event, start, Machine, Ans}
use Rattle.script.specs.Agree.{After, Ways, agrees, from_start}
use Rattle.machine.specs.Suspended.{driver_of, drive, machine_of}
use Rattle.proof_book.specs.Pages.{Pages}
use Rattle.proof_book.specs.Book.{book}
use Rattle.proof_book.specs.Coupling.{Coupling}
use Rattle.proof_book.proofs.StartUpLaws.{fresh_kept}
use Rattle.proof_book.proofs.AgreesLaws.{agree}
use Rattle.proof_book.specs.FrontPage.{CallRecord, book_step, ArrivalsEach}
use Rattle.proof_book.specs.FrontPage as page
use Rattle.proof_book.proofs.SlotsKeptLaws.{lent_is}
use Rattle.proof_book.specs.Arrivals.{Note, after}
use Rattle.proof_book.proofs.ArrivalCallsLaws.{WayTold, is-regular, told_on, start-told, arrival-is, none-missed}

each : (ms : List CallRecord) (xs : List ℕ) (a : Buf) {φ : Phase} (n : Machine Answer Pages) (f : Note)
    → Ways driver_of book agree calls φ (machine_of xs a).under_way_lem n.under_way_lem → Coupling φ a (view xs) n.st
    → WayTold f n.under_way_lem n.st
    → page.Calls xs a n ms → ArrivalsEach n f ms
each [] xs a n f w R t p = tt
each (m ∷ ms) xs a n f w R t p =
    let c = m.event.call in
    let b = m.event.lent in
    let k : After driver_of book agree calls (m.answer, machine_of m.bytes m.slots) (page.book_after m n)
    = subst (λ (x : Ans Answer × Machine Answer Driver). After driver_of book agree calls x (book_step x.0 c n b))
    (sym p.0)
    (agrees driver_of book agree calls fresh_kept c b (machine_of xs a) n w R
    (lent_is (machine_of xs a) n R b c p.1)) in (
      λ e d. arrival-is c m.answer e n (is-regular R) f t b k.same d,
      λ v r ws. none-missed c m.answer n f t b k.same v r ws,
      each ms m.bytes m.slots (page.book_after m n).1 (after c m.answer n.st b f) k.ways k.rest
          (told_on m.answer c f n b k.same (is-regular R) t) p.2,
    )

-- any bytes, a start-up that rows 1 and 2 do not stop, and then any calls of demand 3's premise
pub arrivals : (c : Config) (b : Buf) → start_row c b ≡ zero
    → (xs : List ℕ) (a : Buf) (n : Machine Answer Pages) (first : CallRecord)
    → first.event ≡ record { call = start c; lent = b } → (ms : List CallRecord) → page.Calls xs a n (first ∷ ms)
    → (f : Note) → ArrivalsEach (page.book_after first n).1
    (after first.event.call first.answer n.st first.event.lent f) ms
arrivals c b row xs a n first is ms p f =
    each ms first.bytes first.slots (page.book_after first n).1
    (after first.event.call first.answer n.st first.event.lent f)
    begun.ways begun.rest told p.2
  where
    begun : After driver_of book agree calls (first.answer, machine_of first.bytes first.slots)
        (page.book_after first n)
    begun = subst (λ (x : Ans Answer × Machine Answer Driver). After driver_of book agree calls x
        (book_step x.0 first.event.call n first.event.lent))
        (sym p.0) (subst (λ (v : Event Config Op). let x = drive v.call (machine_of xs a) v.lent in
        After driver_of book agree calls x (book_step x.0 v.call n v.lent)) (sym is)
        (rw row (from_start driver_of book agree calls fresh_kept c b row [] (machine_of xs a) n tt).0))

    g : Note
    g = after first.event.call first.answer n.st first.event.lent f

    told : WayTold g (page.book_after first n).1.under_way_lem (page.book_after first n).1.st
    told = subst (λ (v : Event Config Op). let y = book_step first.answer v.call n v.lent in WayTold g
        y.1.under_way_lem y.1.st) (sym is)
        (start-told first.answer c g n b row)
