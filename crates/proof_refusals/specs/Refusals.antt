-- A refusal changes nothing but what document 01 names: of every call on the machine that lent bytes are, and of the
-- code, each of whose calls is a step of it
use Rattle.std.specs.Prelude.{◌≡◌, ℕ}
use Rattle.std.proofs.Common.{◌∙◌}
use Rattle.state.specs.Driver.{Driver}
use Rattle.state.specs.Fresh as fresh
use Rattle.script.specs.Script.{◌>>◌}
use Rattle.script.specs.Answers.{Answer, Refused, End, NotYet, Done, Shown}
use Rattle.script.specs.Machine.{Buf, Pending, Machine, Ans}
use Rattle.script.specs.Machine.{ended}
use Rattle.script.specs.Machine.{handed, told}
use Rattle.driver.specs.Points as driver
use Rattle.bus.specs.Points as bus
use Rattle.control.specs.Points as control
use Rattle.endpoint.specs.Points as endpoint
use Rattle.isochronous.specs.Advance as advance
use Rattle.interrupt.specs.Points as handler
use Rattle.machine.specs.declared.Suspended.TheVariants as under
use Rattle.proof_refusals.specs.Outcomes.{Listed}

abbrev pub Called : Type 0
Called = Ans Answer × Machine Answer Driver

abbrev pub machine_in : Pending Answer Driver → Driver → Buf → Machine Answer Driver
machine_in w d b = record { under_way_lem = w; st = d; buf = b }

-- f n is the machine after refusal n; an end gives the wake-ups of the state that is left
abbrev pub AnswerIs : (ℕ → Machine Answer Driver) → Answer → Machine Answer Driver → Type 0
AnswerIs f (Refused n) m = m ≡ f n
AnswerIs f (End n w) m = Listed w m.st
AnswerIs f NotYet m = Unit {0}
AnswerIs f (Done bs) m = Unit {0}
AnswerIs f (Shown bs k) m = Unit {0}

abbrev pub AnsIs : (ℕ → Machine Answer Driver) → Ans Answer → Machine Answer Driver → Type 0
AnsIs f (ended a) m = AnswerIs f a m
AnsIs f (handed q) m = Unit {0}
AnsIs f (told n) m = Unit {0}

abbrev pub Is : (ℕ → Machine Answer Driver) → Called → Type 0
Is f x = AnsIs f x.0 x.1
