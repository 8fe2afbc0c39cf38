-- SharedPage.antt's definitions for lists of calls of the machine that the state's bytes are, as MachineRuns.antt of
-- proof_book has those of FrontPage.antt: what each is lent, and what holds after each. The theorem is
-- `machine-shared-demand-3` (SharedTurns.antt)
use Rattle.std.specs.Prelude.{List, [], ◌∷◌, ℕ}
use Rattle.state.specs.Driver.{Driver}
use Rattle.script.specs.Answers.{Answer}
use Rattle.script.specs.Calls.{Config, Op}
use Rattle.script.specs.Machine.{Buf, Event, start, Machine}
use Rattle.answer.specs.Goes.{StepResult}
use Rattle.calls.specs.Sharing.{shared_call}
use Rattle.proof_book.specs.Pages.{Pages}
use Rattle.proof_book.specs.FrontPage.{BufferPreserved}
use Rattle.proof_contracts.specs.SharedBook.{shared_step}
use Rattle.proof_contracts.specs.SharedPage.{AfterShared}

-- a call, the slot buffer that it is lent, and the record before it
pub record Turn : Type 0 where
  pub event : Event Config Op
  pub before : List ℕ

abbrev pub starting : Config → Buf → List ℕ → Turn
starting c b before = record { event = record { call = start c; lent = b }; before = before }

-- what it comes to, as driver i's call, and the book after it
abbrev pub comes_to : ℕ → Turn → Machine Answer Driver → StepResult × List ℕ
comes_to i t m = shared_call i t.event.call m t.before t.event.lent

abbrev pub book_after : ℕ → Turn → Machine Answer Driver → Machine Answer Pages → Machine Answer Pages
book_after i t m n = (shared_step i (comes_to i t m).0.0 t.event.call n t.before t.event.lent).1

abbrev pub Premise : ℕ → List Turn → Machine Answer Driver → Machine Answer Pages → Type 0
Premise i [] m n = Unit {0}
Premise i (t ∷ ts) m n = BufferPreserved t.event.call n m.buf t.event.lent
    × Premise i ts (comes_to i t m).0.1 (book_after i t m n)

abbrev pub AfterTurns : ℕ → List Turn → Machine Answer Driver → Machine Answer Pages → Type 0
AfterTurns i [] m n = Unit {0}
AfterTurns i (t ∷ ts) m n = AfterShared i t.event t.before (comes_to i t m) n
    × AfterTurns i ts (comes_to i t m).0.1 (book_after i t m n)
