use Rattle.script_ops.specs.Rings.{room_in}
use Rattle.script_ops.proofs.rings.takes.Goals as goal

pub returns-then-not-is_on : goal.returns-then-not-is_on
unfolding room_in
returns-then-not-is_on c = simp (← c.is_on.ensures, c.if-not-is_on.true)

pub returns-then-not-has_room_in : goal.returns-then-not-has_room_in
unfolding room_in
returns-then-not-has_room_in c =
    simp (
      ← c.has_room_in.ensures,
      c.if-not-has_room_in.true,
      ← c.is_on.ensures,
      c.if-not-is_on.false,
    )

pub returns : goal.returns
unfolding room_in
returns c =
    simp (
      ← c.has_room_in.ensures,
      c.if-not-has_room_in.false,
      ← c.is_on.ensures,
      c.if-not-is_on.false,
    )
