use Rattle.script.specs.Calls as calls
use Rattle.machine.proofs.ContractsLaws.{idled, other-begun, other-busy}
use Rattle.calls.proofs.requests.begin_read.Goals as goal

pub begun_endpoint-requires : goal.begun_endpoint-requires
begun_endpoint-requires c =
    idled _ _ (c.begin_read-x.ensures.s_unchanged, c.begin_read-x.ensures.linked_begun) c.is_idle.ensures c.if-is_idle.true

pub returns-then-is_idle : goal.returns-then-is_idle
returns-then-is_idle c =
    other-begun (calls.BeginRead c.args.e c.args.n) _ c.is_idle.ensures
    c.begun_endpoint.result _ _ c.if-is_idle.true (c.begin_read-x.ensures.by_index, (c.begin_read-x.ensures.s_unchanged, c.begin_read-x.ensures.linked_begun)) (c.begun_endpoint.ensures.steps_to, c.begun_endpoint.ensures.saved_by_answer)

pub returns : goal.returns
returns c =
    other-busy (calls.BeginRead c.args.e c.args.n) _ c.is_idle.ensures c.if-is_idle.false
