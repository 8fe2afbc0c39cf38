-- FrontPage.antt's definitions for lists of calls of the machine that the state's bytes are: what each is lent, and
-- what holds after each. The theorem is `machine-demand-3` (FrontPageLaws.antt)
use Rattle.std.specs.Prelude.{List, [], ◌∷◌}
use Rattle.state.specs.Driver.{Driver}
use Rattle.script.specs.Answers.{Answer}
use Rattle.script.specs.Calls.{Config, Op}
use Rattle.script.specs.Machine.{Event, Machine}
use Rattle.machine.specs.Suspended.{drive}
use Rattle.proof_book.specs.Pages.{Pages}
use Rattle.proof_book.specs.FrontPage.{book_step, BufferPreserved, AfterCall}

abbrev pub Premise : List (Event Config Op) → Machine Answer Driver → Machine Answer Pages → Type 0
Premise [] m n = Unit {0}
Premise (e ∷ es) m n =
    let x = drive e.call m e.lent in
    BufferPreserved e.call n m.buf e.lent × Premise es x.1 (book_step x.0 e.call n e.lent).1

abbrev pub AfterEvents : List (Event Config Op) → Machine Answer Driver → Machine Answer Pages → Type 0
AfterEvents [] m n = Unit {0}
AfterEvents (e ∷ es) m n =
    let x = drive e.call m e.lent in
    let y = book_step x.0 e.call n e.lent in
    AfterCall e.call e.lent n x.0 x.1.st x.1.buf y.1.st × AfterEvents es x.1 y.1
