use Rattle.script.specs.Calls as calls
use lib.ListN.{length}
use Rattle.machine.specs.KeepsLaws.{kept_from_lem}
use Rattle.machine.proofs.ContractsLaws.{idled, polled-done, polled-busy, polled-misfit}
use Rattle.calls.proofs.control_polls.poll_data_out.Goals as goal

pub polled_control-requires : goal.polled_control-requires
polled_control-requires c =
    idled _ _ (c.poll_data_out-x.ensures.s_unchanged, c.poll_data_out-x.ensures.linked_polled) c.is_idle.ensures c.if-is_idle.true

pub returns-then-is_idle : goal.returns-then-is_idle
returns-then-is_idle c =
    polled-done (calls.PollDataOut (length c.args.out.now)) _ _ c.slots_fit.ensures c.if-slots_fit.true
    c.is_idle.ensures c.if-is_idle.true c.polled_control.result _ _ c.poll_data_out-x.ensures.buf_after
    (kept_from_lem c.polled_control.result _ _ _ c.poll_data_out-x.ensures.s_unchanged c.polled_control.ensures.saved_by_answer) _ _
    c.poll_data_out-x.ensures.out_after
    (c.polled_control.ensures.by_index _ _)

pub returns-then-slots_fit : goal.returns-then-slots_fit
returns-then-slots_fit c =
    polled-busy (calls.PollDataOut (length c.args.out.now)) _ _ c.slots_fit.ensures c.if-slots_fit.true c.is_idle.ensures c.if-is_idle.false _

pub returns : goal.returns
returns c = polled-misfit (calls.PollDataOut (length c.args.out.now)) _ _ c.slots_fit.ensures c.if-slots_fit.false _
