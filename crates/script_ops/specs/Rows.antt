-- Rows 4 and 5 as tests of the state; an endpoint's number is below 16. Assumes nothing.
use Rattle.std.specs.Prelude.{Bool, true, cond, ◌&&◌, ◌≡◌, ℕ, ◌<◌, eqb}
use Rattle.regs.specs.declared.Dir.{Dir}
use Rattle.state.specs.declared.Allocator.{Allocator}
use Rattle.state.specs.Driver.{Driver}
use Rattle.script.specs.Answers.{is_allocated}

-- the row that refuses a call: 4, EP0 is not started; 5, the endpoint is not allocated in the direction; 0, neither
unfoldable pub refusal_of : Driver → Dir → ℕ → ℕ
refusal_of d dir e = cond (eqb d.globals.stage 2) (cond (is_allocated d.allocator dir e) 0 5) 4

-- row 5 of a stall, which takes EP0 too
unfoldable pub stallable : Allocator → Dir → ℕ → Bool
stallable a d e = cond (eqb e 0) true (is_allocated a d e)
