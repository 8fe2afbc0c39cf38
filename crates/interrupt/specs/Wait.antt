-- The wait for sie_free, one look at a time
use Rattle.std.specs.Prelude.{Bool, true, ◌||◌, ℕ, eqb}
use Rattle.regs.specs.MisStatus.{sie_free}
use Rattle.script.specs.Tree as tree
use Rattle.script.specs.Script.{run, done, test}
use Rattle.script.specs.Handler.{looks}
use Rattle.script_ops.specs.Rings.{St}
use Rattle.script_ops.specs.Concrete.{concrete}

-- a look brought v; n more may follow
unfoldable pub looked : ℕ → ℕ → tree.Prog St Unit
looked v n t = run concrete (test {i = true} (sie_free v) done (looks n)) t

-- the wait ends with this look
unfoldable pub over : ℕ → ℕ → Bool
over v n = sie_free v || eqb n 0
