-- The same of the Rattle code, whose calls are steps of the machine of calls that the lent bytes are
-- (proof_book/proofs/CodeLaws.antt)
use Rattle.std.specs.Prelude.{List, [], ◌∷◌, ◌≡◌}
use Rattle.script.specs.Answers.{Answer}
use Rattle.script.specs.Machine.{Machine}
use Rattle.proof_book.specs.FrontPage.{CallRecord}
use Rattle.proof_wake_ups.specs.Heard.{Heard}
use Rattle.proof_wake_ups.specs.Machines.{hear}

-- each answer is that of the driver beside the record, call by call
abbrev pub AsHeard : Machine Answer Heard → List CallRecord → Type 0
AsHeard n [] = Unit {0}
AsHeard n (m ∷ ms) = (m.answer ≡ (hear m.event.call n m.event.lent).0)
    × AsHeard (hear m.event.call n m.event.lent).1 ms
