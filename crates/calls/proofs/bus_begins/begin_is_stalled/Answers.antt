use Rattle.script.specs.Calls as calls
use Rattle.script.specs.Answers.{operation}
use Rattle.state.specs.State.{view}
use Rattle.script.specs.Bus as script
use Rattle.script_ops.specs.Rows.{stallable}
use Rattle.script_ops.specs.RowsLaws.{stallable-lt}
use Rattle.calls.specs.Stalls.{stall-call}
use mathlib.Core.Path.{refl, sym, ◌∙◌}
use Rattle.machine.proofs.ContractsLaws.{begins, row-passed, row-refused, row-stopped}
use Rattle.calls.proofs.bus_begins.begin_is_stalled.Goals as goal

pub endpoint-requires : goal.endpoint-requires
endpoint-requires c = stallable-lt _ _ _ (sym c.is_stallable.ensures ∙ c.if-is_stallable.true)

pub suspend_or_end_bus-requires : goal.suspend_or_end_bus-requires
suspend_or_end_bus-requires c = c.is_endpoint_stalled-x.ensures.1

pub returns-then-is_stallable : goal.returns-then-is_stallable
returns-then-is_stallable c =
    row-passed (calls.IsStalled c.args.dir c.args.e) (operation (script.is_endpoint_stalled c.args.dir c.args.e))
    _ _
    c.stop-n.ensures (λ a b. stall-call (calls.IsStalled c.args.dir c.args.e) c.args.dir c.args.e
    (operation (script.is_endpoint_stalled c.args.dir c.args.e)) _ _ a b refl) c.if-n-eq0.true
    c.is_stallable.ensures c.if-is_stallable.true c.suspend_or_end_bus.result _
    (begins (script.is_endpoint_stalled c.args.dir c.args.e) (view c.args.s.now) c.suspend_or_end_bus.result _
    c.clear_wakes.ensures.s_after (λ b. c.is_endpoint_stalled-x.ensures.0 _ b ∙ rw
    c.endpoint.ensures) c.suspend_or_end_bus.ensures.steps_to) (c.suspend_or_end_bus.ensures.stored _)

pub returns-then-n-eq0 : goal.returns-then-n-eq0
returns-then-n-eq0 c =
    row-refused (calls.IsStalled c.args.dir c.args.e) (operation (script.is_endpoint_stalled c.args.dir c.args.e))
    _ _
    c.stop-n.ensures (λ a b. stall-call (calls.IsStalled c.args.dir c.args.e) c.args.dir c.args.e
    (operation (script.is_endpoint_stalled c.args.dir c.args.e)) _ _ a b refl) c.if-n-eq0.true c.is_stallable.ensures
    c.if-is_stallable.false

pub returns : goal.returns
returns c =
    row-stopped (calls.IsStalled c.args.dir c.args.e) (operation (script.is_endpoint_stalled c.args.dir c.args.e))
    (stallable (view c.args.s.now).allocator c.args.dir c.args.e) _ c.stop-n.ensures
    (λ a b. stall-call (calls.IsStalled c.args.dir c.args.e) c.args.dir c.args.e
    (operation (script.is_endpoint_stalled c.args.dir c.args.e)) _ _ a b refl) c.if-n-eq0.false
