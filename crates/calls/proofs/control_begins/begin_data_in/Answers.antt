use Rattle.script.specs.Calls as calls
use Rattle.machine.specs.KeepsLaws.{kept_from_lem}
use Rattle.machine.proofs.ContractsLaws.{idled, slotted-done, slotted-busy, slotted-misfit}
use Rattle.calls.proofs.control_begins.begin_data_in.Goals as goal

pub begun_control-requires : goal.begun_control-requires
begun_control-requires c =
    idled _ _ (c.data_in-x.ensures.s_unchanged, c.data_in-x.ensures.linked_begun)
    c.is_idle.ensures
    c.if-is_idle.true

pub returns-then-is_idle : goal.returns-then-is_idle
returns-then-is_idle c =
    slotted-done (calls.BeginDataIn c.args.bytes.now c.args.first c.args.last) _ _
    c.slots_fit.ensures c.if-slots_fit.true
    c.is_idle.ensures c.if-is_idle.true
    c.begun_control.result _ _ c.data_in-x.ensures.buf_after
    (kept_from_lem c.begun_control.result _ _ _ c.data_in-x.ensures.s_unchanged c.begun_control.ensures.saved_by_answer) _
    (c.begun_control.ensures.steps_to _)

pub returns-then-slots_fit : goal.returns-then-slots_fit
returns-then-slots_fit c =
    slotted-busy (calls.BeginDataIn c.args.bytes.now c.args.first c.args.last) _ _ c.slots_fit.ensures c.if-slots_fit.true c.is_idle.ensures c.if-is_idle.false

pub returns : goal.returns
returns c = slotted-misfit (calls.BeginDataIn c.args.bytes.now c.args.first c.args.last) _ _ c.slots_fit.ensures c.if-slots_fit.false
