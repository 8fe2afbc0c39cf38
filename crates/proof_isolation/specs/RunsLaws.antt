-- Laws on the definitions of Runs.antt
use Rattle.std.specs.Prelude.{◌≡◌}
use Rattle.std.proofs.Common.{subst, sym}
use Rattle.answer.specs.Goes.{StepResult}
use Rattle.proof_wake_ups.specs.Rooms.{Rooms}

pub through-one : (G : StepResult → Type 0) {y z : StepResult} → y ≡ z → Rooms y → (Rooms z → G z) → G y
through-one G e r f = subst G (sym e) (f (subst Rooms e r))
