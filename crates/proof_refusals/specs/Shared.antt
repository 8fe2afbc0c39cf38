-- The same of the calls that bring the bus time which drivers share (request Seven): a refusal, row 19 too, leaves that
-- record as it was
use Rattle.std.specs.Prelude.{List, ◌≡◌, ℕ}
use Rattle.std.proofs.Common.{◌∙◌}
use Rattle.state.specs.Driver.{Driver}
use Rattle.script.specs.Answers.{Answer, Refused, End, NotYet, Done, Shown}
use Rattle.script.specs.Machine.{Machine, Ans, ended, handed}
use Rattle.script.specs.Machine.{told}
use Rattle.proof_refusals.specs.Refusals.{Called}

-- after refusal n the machine is f n, and the record t
abbrev AnswerShares : (ℕ → Machine Answer Driver) → List ℕ → Answer → Machine Answer Driver → List ℕ → Type 0
AnswerShares f t (Refused n) m s = (m ≡ f n) × (s ≡ t)
AnswerShares f t (End n w) m s = Unit {0}
AnswerShares f t NotYet m s = Unit {0}
AnswerShares f t (Done bs) m s = Unit {0}
AnswerShares f t (Shown bs k) m s = Unit {0}

abbrev pub AnsShares : (ℕ → Machine Answer Driver) → List ℕ → Ans Answer → Machine Answer Driver → List ℕ → Type 0
AnsShares f t (ended a) m s = AnswerShares f t a m s
AnsShares f t (handed q) m s = Unit {0}
AnsShares f t (told n) m s = Unit {0}

abbrev pub Shares : (ℕ → Machine Answer Driver) → List ℕ → Called × List ℕ → Type 0
Shares f t z = AnsShares f t z.0.0 z.0.1 z.1
