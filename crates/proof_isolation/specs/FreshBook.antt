-- The book that a start-up begins
use Rattle.std.specs.Prelude.{zero}
use Rattle.script.specs.Answers.{Answer}
use Rattle.script.specs.Calls.{Config, calls}
use Rattle.script.specs.Machine.{Buf, Ans, Machine, idle, fed, started}
use Rattle.proof_book.specs.Pages.{Pages}
use Rattle.proof_book.specs.Book.{book}

-- the book after a start-up (demand 3), of whose access it is told
abbrev pub fresh_book : Config → Buf → Ans Answer → Machine Answer Pages
fresh_book k b a = (started calls book.driver (fed book a) k zero
    (record { under_way_lem = idle; st = book.driver.fresh k; buf = b }) b).1
