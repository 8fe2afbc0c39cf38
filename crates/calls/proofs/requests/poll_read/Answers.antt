use Rattle.script.specs.Calls as calls
use lib.ListN.{length}
use Rattle.machine.proofs.ContractsLaws.{idled, polled-done, polled-busy, polled-misfit}
use Rattle.calls.proofs.requests.poll_read.Goals as goal

pub returns-then-is_idle : goal.returns-then-is_idle
returns-then-is_idle c =
    polled-done (calls.PollRead c.args.e (length c.args.out.now)) _ _ c.slots_fit.ensures c.if-slots_fit.true
    c.is_idle.ensures c.if-is_idle.true c.polled_endpoint.result _ _ c.poll_read-x.ensures.buf_after
    (c.polled_endpoint.ensures.keeps_saved _ _ c.poll_read-x.ensures.s_unchanged) _ _ c.poll_read-x.ensures.out_after
    (c.polled_endpoint.ensures.b_value _ _ _ _
    (idled {L = Unit {0}} _ _ (c.poll_read-x.ensures.s_unchanged, tt) c.is_idle.ensures c.if-is_idle.true).1)

pub returns-then-slots_fit : goal.returns-then-slots_fit
returns-then-slots_fit c =
    polled-busy (calls.PollRead c.args.e (length c.args.out.now)) _ _ c.slots_fit.ensures c.if-slots_fit.true c.is_idle.ensures c.if-is_idle.false _

pub returns : goal.returns
returns c = polled-misfit (calls.PollRead c.args.e (length c.args.out.now)) _ _ c.slots_fit.ensures c.if-slots_fit.false _
