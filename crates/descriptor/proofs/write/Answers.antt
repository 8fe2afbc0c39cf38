use mathlib.Core.Path.{◌∙◌}
use native.Mathlib.Omega.{arith}
use borrow.Author.Tests.{lt-ltb, le-ltb}
use Rattle.descriptor.specs.Writing.{written_of, room_after}
use Rattle.descriptor.specs.WritingLaws.{laid-all}
use Rattle.descriptor.proofs.write.Goals as goal

pub returns-then-room-total : goal.returns-then-room-total
unfolding written_of room_after
returns-then-room-total c =
    let h = lt-ltb _ _ c.if-room-total.true in
    record {
      value = rw (← c.count-n.ensures, h);
      room_after = rw (← c.count-n.ensures, h);
    }

pub returns : goal.returns
unfolding written_of room_after
returns c =
    let h = le-ltb _ _ c.if-room-total.false in
    let l = laid-all c.args.room.now c.count-n.result c.args.list.entries (omega arith) in
    record {
      value = rw (← c.count-n.ensures, h);
      room_after = rw (← c.count-n.ensures, h) (c.endpoints.ensures ∙ rw (
        c.interface.ensures,
        c.configuration.ensures,
      ) l);
    }
