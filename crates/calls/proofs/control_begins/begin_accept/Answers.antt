use Rattle.script.specs.Calls as calls
use Rattle.machine.proofs.ContractsLaws.{idled, other-begun, other-busy}
use Rattle.calls.proofs.control_begins.begin_accept.Goals as goal

pub begun_control-requires : goal.begun_control-requires
begun_control-requires c =
    idled _ _ (c.accept-x.ensures.s_unchanged, c.accept-x.ensures.linked_begun) c.is_idle.ensures c.if-is_idle.true

pub returns-then-is_idle : goal.returns-then-is_idle
returns-then-is_idle c =
    other-begun calls.BeginAccept _ c.is_idle.ensures c.begun_control.result _ _
    c.if-is_idle.true (c.accept-x.ensures.by_index, (c.accept-x.ensures.s_unchanged, c.accept-x.ensures.linked_begun)) (c.begun_control.ensures.steps_to, c.begun_control.ensures.saved_by_answer)

pub returns : goal.returns
returns c = other-busy calls.BeginAccept _ c.is_idle.ensures c.if-is_idle.false
