use Rattle.script_ops.specs.Rings.{next_len}
use Rattle.state.specs.Driver.{len_on}
use Rattle.state.specs.State.{view}
use Rattle.script_ops.proofs.Oldest.{one-waits, none_waits}
use Rattle.script_ops.proofs.rings.next_len.Goals as goal

pub returns-then-has_waiting : goal.returns-then-has_waiting
unfolding next_len
returns-then-has_waiting c =
    one-waits _ _ (len_on (view c.args.s.now) c.args.dir c.args.e) c.load_ep-r.ensures _
    c.has_waiting.ensures _ _ c.if-has_waiting.true c.slot_index.ensures c.load_len.ensures

pub returns : goal.returns
unfolding next_len
returns c =
    none_waits _ _ (len_on (view c.args.s.now) c.args.dir c.args.e) c.load_ep-r.ensures _ c.has_waiting.ensures c.if-has_waiting.false
