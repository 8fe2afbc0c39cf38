use mathlib.Core.List.{[]}
use Rattle.script.specs.Calls as calls
use Rattle.machine.proofs.ContractsLaws.{idled, other-begun, other-busy}
use Rattle.calls.proofs.control_polls.poll_data_in.Goals as goal

pub polled_control-requires : goal.polled_control-requires
polled_control-requires c =
    idled _ _ (c.poll_data_in-x.ensures.s_unchanged, c.poll_data_in-x.ensures.linked_polled) c.is_idle.ensures c.if-is_idle.true

pub returns-then-is_idle : goal.returns-then-is_idle
returns-then-is_idle c =
    other-begun calls.PollDataIn _ c.is_idle.ensures c.polled_control.result _ _
    c.if-is_idle.true (c.poll_data_in-x.ensures.by_index, (c.poll_data_in-x.ensures.s_unchanged, c.poll_data_in-x.ensures.linked_polled)) (c.polled_control.ensures.by_index [], c.polled_control.ensures.saved_by_answer)

pub returns : goal.returns
returns c = other-busy calls.PollDataIn _ c.is_idle.ensures c.if-is_idle.false
