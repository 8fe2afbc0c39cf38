use native.Mathlib.Omega.{arith}
use Rattle.alloc.proofs.number.end.Goals as goal

pub returns : goal.returns
returns c = omega arith
