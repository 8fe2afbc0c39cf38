-- Demand 3: for every list of calls from an accepted start-up, refused ones included, ending anywhere, whatever the
-- chip answers, driver and book agree after each call
use Rattle.std.specs.Prelude.{List, ◌≡◌, zero}
use Rattle.state.specs.Driver.{Driver}
use Rattle.script.specs.Answers.{Answer}
use Rattle.script.specs.Calls.{Config, Op, calls, start_row}
use Rattle.script.specs.Machine.{Buf, Event, Machine, fed, started}
use Rattle.script.specs.Agree.{After, All, Lawful, from_start}
use Rattle.machine.specs.Suspended.{driver_of}
use Rattle.proof_book.specs.Pages.{Pages}
use Rattle.proof_book.specs.Book.{book}
use Rattle.proof_book.proofs.StartUpLaws.{fresh_kept}
use Rattle.proof_book.proofs.AgreesLaws.{agree}

-- the first call is a start-up that rows 1 and 2 do not stop, on whatever was before; every later call is lent the slot
-- buffer as the last one left it, but for the chip's stores (a start-up, or a call that row 1 stops, any buffer)
pub demand3 : (c : Config) (b : Buf) → start_row c b ≡ zero
    → (es : List (Event Config Op)) (m : Machine Answer Driver) (n : Machine Answer Pages)
    → let x = started calls driver_of (λ s. s) c zero m b in
    let y = started calls book.driver (fed book x.0) c zero n b in
    Lawful driver_of book agree calls fresh_kept es x.1 y.1
    → After driver_of book agree calls x y × All driver_of book agree calls fresh_kept es x.1 y.1
demand3 = from_start driver_of book agree calls fresh_kept
