use Rattle.script_ops.specs.Rings.{next_stamp}
use Rattle.state.specs.Driver.{stamp_on}
use Rattle.state.specs.State.{view}
use Rattle.script_ops.proofs.Oldest.{one-waits, none_waits}
use Rattle.script_ops.proofs.rings.next_stamp.Goals as goal

pub returns-then-has_waiting : goal.returns-then-has_waiting
unfolding next_stamp
returns-then-has_waiting c =
    one-waits _ _ (stamp_on (view c.args.s.now) c.args.e) c.load_ep-r.ensures _
    c.has_waiting.ensures _ _ c.if-has_waiting.true c.slot_index.ensures c.load_stamp.ensures

pub returns : goal.returns
unfolding next_stamp
returns c =
    none_waits _ _ (stamp_on (view c.args.s.now) c.args.e) c.load_ep-r.ensures _ c.has_waiting.ensures c.if-has_waiting.false
