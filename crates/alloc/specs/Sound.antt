-- What holds of the allocator from an accepted start-up on: the buffers used are among those that there are, number 0
-- is never taken, what is taken is what is allocated, and no number has both sorts. Assumes nothing.
use Rattle.std.specs.Prelude.{◌≡◌, true, false, ℕ, ◌*◌, ◌≤◌}
use Rattle.bits.specs.Bit.{bit_is_set}
use Rattle.state.specs.declared.Allocator.{Allocator}
use Rattle.regs.specs.declared.Dir.{Dir}
use Rattle.alloc.specs.Alloc.{taken_ins, nums_of, allocated_ins}

pub record Sound (a : Allocator) : Type 0 where
  pub room : a.next ≤ a.count
  pub small : a.count * a.size ≤ 65536
  pub not_zero : (d : Dir) → bit_is_set (taken_ins a d) 0 ≡ false
  pub taken : (d : Dir) (e : ℕ) → bit_is_set (taken_ins a d) e ≡ bit_is_set (allocated_ins a d) e
  pub unmixed : (e : ℕ) → bit_is_set (nums_of a true) e ≡ true → bit_is_set (nums_of a false) e ≡ false
