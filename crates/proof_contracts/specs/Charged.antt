-- Lists of calls with the record of bus time made from what is done, each lent the slot buffer and the record as the
-- last one left them, but for the chip's stores and the other driver's charges: every such list meets the premise of
-- demand 3 with the record
use Rattle.std.specs.Prelude.{Bool, List, [], ◌∷◌, ◌++◌, ◌≡◌, refl, ℕ, take, drop}
use Rattle.state.specs.Driver.{Driver}
use Rattle.script.specs.Answers.{Answer}
use Rattle.script.specs.Machine.{Machine}
use Rattle.answer.specs.Goes.{StepResult}
use Rattle.proof_book.specs.Pages.{Pages}
use Rattle.proof_book.specs.Inputs.{Input, event_of, lent}
use Rattle.proof_contracts.specs.SharedPage.{AfterShared}
use Rattle.proof_contracts.specs.SharedMachine.{Turn, comes_to, book_after, Premise, AfterTurns}

-- what is done (proof_book_witness), and what driver 1 is charged then, a number for each of its 32 places
pub record Charged : Type 0 where
  pub input : Input
  pub others : List ℕ

-- driver 0 and its record, and the book
pub record Standing : Type 0 where
  pub driver : Machine Answer Driver
  pub time : List ℕ
  pub book : Machine Answer Pages

-- the record with driver 1's charges
abbrev pub lent_time : List ℕ → List ℕ → List ℕ
lent_time others time = take 32 time ++ (others ++ drop 64 time)

abbrev pub turn_of : Charged → Standing → Turn
turn_of c s = record { event = event_of c.input s.driver s.book; before = lent_time c.others s.time }

abbrev pub outcome_of : Charged → Standing → StepResult × List ℕ
outcome_of c s = comes_to 0 (turn_of c s) s.driver

abbrev pub next : Charged → Standing → Standing
next c s = record {
  driver = (outcome_of c s).0.1;
  time = (outcome_of c s).1;
  book = book_after 0 (turn_of c s) s.driver s.book;
}

abbrev pub after_all : List Charged → Standing → Standing
after_all [] s = s
after_all (c ∷ cs) s = after_all cs (next c s)

-- a test of how they stand then, so that the check goes through the list once
abbrev pub at_end : (Standing → Bool) → List Charged → Standing → Bool
at_end f [] s = f s
at_end f (c ∷ cs) s = at_end f cs (next c s)

pub at-end-is : (f : Standing → Bool) (cs : List Charged) (s : Standing) → f (after_all cs s) ≡ at_end f cs s
at-end-is f [] s = refl
at-end-is f (c ∷ cs) s = at-end-is f cs (next c s)

abbrev pub turns_of : List Charged → Standing → List Turn
turns_of [] s = []
turns_of (c ∷ cs) s = turn_of c s ∷ turns_of cs (next c s)

-- the premise
pub lawful : (cs : List Charged) (s : Standing) → Premise 0 (turns_of cs s) s.driver s.book
lawful [] s = tt
lawful (c ∷ cs) s = (lent c.input.call s.book s.driver.buf c.input.stored, lawful cs (next c s))

-- what is said of the last of them
pub at_last : (cs : List Charged) (c : Charged) (s : Standing)
    → AfterTurns 0 (turns_of (cs ++ (c ∷ [])) s) s.driver s.book
    → let z = after_all cs s in AfterShared 0 (turn_of c z).event (turn_of c z).before (outcome_of c z) z.book
at_last [] c s y = y.0
at_last (d ∷ cs) c s y = at_last cs c (next d s) y.1
