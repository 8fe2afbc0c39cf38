use native.Mathlib.Omega.{arith}
use Rattle.descriptor.specs.Row.{total_of}
use Rattle.descriptor.proofs.row.total.Goals as goal

pub overflow_mul-result : goal.overflow_mul-result
overflow_mul-result c = omega (arith, c.shared_slice_known-3-1.given 3)

pub overflow_add-result : goal.overflow_add-result
overflow_add-result c =
    omega (arith, c.shared_slice_known-3-1.given 3, c.shared_slice_known-3-1.given 2)

pub returns : goal.returns
unfolding total_of
returns c = rw (c.wide-2.ensures, c.wide.ensures)
