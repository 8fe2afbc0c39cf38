use Rattle.std.proofs.Common.{◌-◌, sym, arith, le-ltb}
use Rattle.ring.specs.Slot.{count_of}
use Rattle.ring.specs.Out.{has_room_out}
use Rattle.ring.proofs.has_room_out.Goals as goal

pub returns-then-n-eq0 : goal.returns-then-n-eq0
unfolding has_room_out
returns-then-n-eq0 c = sym (le-ltb (count_of c.args.s) (c.args.s.slots - 1) (omega arith))

pub returns : goal.returns
unfolding count_of has_room_out
returns c = simp (← c.count.ensures)
