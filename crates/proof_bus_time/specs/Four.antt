-- Up to four drivers and the one record of bus time that they share (document 02, request Seven)
use Rattle.std.specs.Prelude.{cond, List, [], ◌∷◌, ℕ, ◌%◌, eqb}
use Rattle.state.specs.Driver.{Driver}
use Rattle.script.specs.Answers.{Answer}
use Rattle.script.specs.Calls.{Config, Op}
use Rattle.script.specs.Machine.{Event, Machine}
use Rattle.answer.specs.Goes.{StepResult}
use Rattle.calls.specs.Sharing.{shared_call}

-- each driver's machine by its number, and the record
pub record Four : Type 0 where
  pub driver : ℕ → Machine Answer Driver
  pub time : List ℕ

-- a call of one of them; their numbers count modulo 4
pub record Turn : Type 0 where
  pub who : ℕ
  pub event : Event Config Op

-- what it comes to: it gets the record as the last call left it
abbrev pub called : Turn → Four → StepResult × List ℕ
called x f = shared_call x.who x.event.call (f.driver (x.who % 4)) f.time x.event.lent

abbrev pub changed : (ℕ → Machine Answer Driver) → ℕ → Machine Answer Driver → ℕ → Machine Answer Driver
changed f i m j = cond (eqb j i) m (f j)

abbrev pub next : Turn → Four → Four
next x f = record { driver = changed f.driver (x.who % 4) (called x f).0.1; time = (called x f).1 }

-- after a list of calls, in any order of the drivers
abbrev pub after : List Turn → Four → Four
after [] f = f
after (x ∷ xs) f = after xs (next x f)
