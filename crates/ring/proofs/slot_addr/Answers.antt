use Rattle.std.proofs.Common.{mul-le-mul_right, arith}
use Rattle.ring.specs.Slot.{slot_addr}
use Rattle.ring.proofs.slot_addr.Goals as goal

pub overflow_mul-offset : goal.overflow_mul-offset
overflow_mul-offset c =
    record {
      fits = omega (arith, mul-le-mul_right {m = c.slot_index.result} {n = 255} c.args.s.stride (omega arith));
    }

pub returns : goal.returns
unfolding slot_addr
returns c = simp (c.wrapping_add_u32.ensures.value, ← c.slot_index.ensures)
