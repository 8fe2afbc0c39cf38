-- Rows 1, 3 and 4 as tests of the state: a call is its row's refusal, or its script
use Rattle.std.specs.Prelude.{Bool, true, false, cond, ◌≡◌, ℕ, eqb}
use Rattle.std.proofs.Common.{◌∙◌}
use Rattle.state.specs.Driver.{Driver}
use Rattle.script.specs.Answers.{Answer}
use Rattle.script.specs.Machine.{Pending, idle, busy}
use Rattle.machine.specs.declared.Suspended.{Suspended}
use Rattle.machine.specs.Suspended.{way_of}

-- nothing is under way
abbrev pub idle_way : Pending Answer Driver → Bool
idle_way idle = true
idle_way (busy i q k) = false

unfoldable pub is_idle : Suspended → Bool
is_idle u = idle_way (way_of u)

-- a call that wants the driver idle and at a stage: an operation is under way (3), or the stage is another (4); 0 where
-- neither stops it
unfoldable pub stop_of : Bool → ℕ → ℕ → ℕ
stop_of x wanted stage = cond x (cond (eqb stage wanted) 0 4) 3

-- a call that passes during an interrupt: with nothing under way, or an interrupt
abbrev pub pass_way : Pending Answer Driver → Bool
pass_way idle = true
pass_way (busy i q k) = i

unfoldable pub may_pass : Suspended → Bool
may_pass u = pass_way (way_of u)
