use Rattle.script.specs.Calls as calls
use Rattle.machine.specs.KeepsLaws.{kept_from_lem}
use Rattle.machine.proofs.ContractsLaws.{idled, slotted-done, slotted-busy, slotted-misfit}
use Rattle.calls.proofs.requests.begin_write.Goals as goal

pub begun_endpoint-requires : goal.begun_endpoint-requires
begun_endpoint-requires c =
    idled _ _ (c.begin_write-x.ensures.s_unchanged, c.begin_write-x.ensures.linked_begun) c.is_idle.ensures c.if-is_idle.true

pub returns-then-is_idle : goal.returns-then-is_idle
returns-then-is_idle c =
    slotted-done (calls.BeginWrite c.args.e c.args.bytes.now) _ _ c.slots_fit.ensures
    c.if-slots_fit.true c.is_idle.ensures
    c.if-is_idle.true c.begun_endpoint.result _ _ c.begin_write-x.ensures.buf_after
    (kept_from_lem c.begun_endpoint.result _ _ _ c.begin_write-x.ensures.s_unchanged c.begun_endpoint.ensures.saved_by_answer) _
    (c.begun_endpoint.ensures.steps_to _)

pub returns-then-slots_fit : goal.returns-then-slots_fit
returns-then-slots_fit c =
    slotted-busy (calls.BeginWrite c.args.e c.args.bytes.now) _ _ c.slots_fit.ensures c.if-slots_fit.true c.is_idle.ensures c.if-is_idle.false

pub returns : goal.returns
returns c = slotted-misfit (calls.BeginWrite c.args.e c.args.bytes.now) _ _ c.slots_fit.ensures c.if-slots_fit.false
