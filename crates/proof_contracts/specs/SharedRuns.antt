-- Driver and book agree over every list of calls with the record of bus time that an accepted start-up begins
use Rattle.std.specs.Prelude.{List, [], ◌∷◌, ◌≡◌, ℕ}
use Rattle.script.specs.Answers.{Answer}
use Rattle.script.specs.Machine.{Machine}
use Rattle.machine.specs.Suspended.{machine_of}
use Rattle.proof_book.specs.Pages.{Pages}
use Rattle.proof_contracts.specs.SharedPage.{MadeShared, noted}
use Rattle.proof_contracts.specs.SharedAgrees.{Agreed}

-- of a call that was made
abbrev pub AgreedOn : ℕ → MadeShared → Machine Answer Pages → Type 0
AgreedOn i m n = Agreed i m.event.call (m.answer, machine_of m.bytes m.slots) m.before m.time
    m.event.lent n

abbrev pub AgreedAll : ℕ → Machine Answer Pages → List MadeShared → Type 0
AgreedAll i n [] = Unit {0}
AgreedAll i n (m ∷ ms) = AgreedOn i m n × AgreedAll i (noted i m n).1 ms
