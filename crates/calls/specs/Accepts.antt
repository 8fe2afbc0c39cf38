-- Which enablings the driver alone would begin: rows 1, 3, 4 and 5 do not stop them, and each begins with an access
use Rattle.std.specs.Prelude.{Bool, false, cond, ℕ, eqb}
use Rattle.regs.specs.declared.Dir.{Dir}
use Rattle.state.specs.Driver.{Driver}
use Rattle.script.specs.Answers.{is_allocated}
use Rattle.script.specs.Machine.{Buf}
use Rattle.machine.specs.declared.Suspended.{Suspended}
use Rattle.machine.specs.Suspended.{slots_fit}
use Rattle.machine.specs.Rows.{is_idle, stop_of}

-- no row before 19 stops it
unfoldable pub accepts : Driver → Suspended → Buf → Dir → ℕ → Bool
accepts d u b dir e = cond (slots_fit d b) (cond (eqb (stop_of (is_idle u) 2 d.globals.stage) 0) (is_allocated d.allocator dir e) false) false
