use Rattle.ring.specs.Out.{arrived_of}
use Rattle.ring.proofs.arrived.Goals as goal

pub returns-then-has_room_out : goal.returns-then-has_room_out
unfolding arrived_of
returns-then-has_room_out c =
    simp (c.joined.ensures, c.if-has_room_out.true, ← c.has_room_out.ensures)

pub returns : goal.returns
unfolding arrived_of
returns c = simp (c.overrun.ensures, c.if-has_room_out.false, ← c.has_room_out.ensures)
