use Rattle.script_ops.specs.RowsLaws.{number_lt}
use native.Mathlib.Omega.{arith}
use Rattle.script_ops.proofs.rows.low.Goals as goal

pub overflow_cast-result : goal.overflow_cast-result
overflow_cast-result c = omega (arith, number_lt c.args.e c.requires)
