use Rattle.script.specs.Calls as calls
use Rattle.machine.proofs.ContractsLaws.{idled, slotted-done, slotted-busy, slotted-misfit}
use Rattle.calls.proofs.requests.poll_write.Goals as goal

pub returns-then-is_idle : goal.returns-then-is_idle
returns-then-is_idle c =
    slotted-done (calls.PollWrite c.args.e c.args.bytes.now) _ _ c.slots_fit.ensures
    c.if-slots_fit.true c.is_idle.ensures
    c.if-is_idle.true c.polled_endpoint.result _ _ c.poll_write-x.ensures.buf_after
    (c.polled_endpoint.ensures.keeps_saved _ _ c.poll_write-x.ensures.s_unchanged) _
    (c.polled_endpoint.ensures.b_value _ _ _ _ (idled {L = Unit {0}} _ _ (c.poll_write-x.ensures.s_unchanged, tt)
    c.is_idle.ensures c.if-is_idle.true).1)

pub returns-then-slots_fit : goal.returns-then-slots_fit
returns-then-slots_fit c =
    slotted-busy (calls.PollWrite c.args.e c.args.bytes.now) _ _ c.slots_fit.ensures c.if-slots_fit.true c.is_idle.ensures c.if-is_idle.false

pub returns : goal.returns
returns c = slotted-misfit (calls.PollWrite c.args.e c.args.bytes.now) _ _ c.slots_fit.ensures c.if-slots_fit.false
