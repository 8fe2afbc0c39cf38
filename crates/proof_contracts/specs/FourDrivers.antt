-- The steps are those of the lists of calls of four drivers too (proof_bus_time/specs/Code.antt): so the record is what
-- the history of the calls says, and the
-- question of the time in use answers that
use Rattle.std.specs.Prelude.{List, ◌≡◌, ◌%◌}
use Rattle.std.proofs.Common.{ap, ◌∙◌}
use Rattle.bus_time.specs.Time.{is_in_use}
use Rattle.proof_bus_time.specs.History.{history}
use Rattle.proof_bus_time.specs.Enabled.{FourAtFirst}
use Rattle.proof_bus_time.specs.Charged.{charged_time}
use Rattle.proof_bus_time.specs.Code.{LentFour, four_of, Run, turns, last}
use Rattle.proof_bus_time.proofs.CodeLaws.{code-in-use-charged}
use Rattle.proof_bus_time.specs.Code as four
use Rattle.usbhs_c.proofs.usbhs_time_in_use.Reads as time-in-use-contract

-- "a question answers the time in use, always": after every list of calls of four drivers, by the history alone
pub time-in-use-is : (κs time r z : _) → time-in-use-contract.Learnt κs (time, tt) r z
    → (ms : List four.TurnMade) (l : LentFour) → Run l ms → FourAtFirst (four_of l) → time.now ≡ (last l ms).time
    → r ≡ charged_time (history (turns ms) (four_of l))
time-in-use-is κs time r z h ms l run first e = h ∙ (ap is_in_use e ∙ code-in-use-charged ms l run first)
