use Rattle.machine.proofs.PointsStandsLaws.{at_last}
use Rattle.machine.specs.ControlLaws.{control, first}
use Rattle.state.specs.State.{saved}
use Rattle.machine.proofs.resume_op.resume_control.Goals as goal

pub resume_wrote-requires : goal.resume_wrote-requires
resume_wrote-requires c =
    at_last control c.args.s.now c.requires c.sub_byte-k.ensures (first (saved c.args.s.now) _ c.in_default.in_default-own.rest)

pub returns-in-1 : goal.returns-in-1
returns-in-1 c = c.resume_ack.ensures

pub returns-in-2 : goal.returns-in-2
returns-in-2 c = c.resume_status_len.ensures _

pub returns-in-3 : goal.returns-in-3
returns-in-3 c = c.resume_status.ensures

pub returns-in-4 : goal.returns-in-4
returns-in-4 c = c.resume_stall_in.ensures

pub returns-in-5 : goal.returns-in-5
returns-in-5 c = c.resume_stalled_in.ensures _

pub returns-in-6 : goal.returns-in-6
returns-in-6 c = c.resume_stall_out.ensures

pub returns-in-7 : goal.returns-in-7
returns-in-7 c = c.resume_closing.ensures _

pub returns-in-8 : goal.returns-in-8
returns-in-8 c = c.resume_loaded.ensures _

pub returns-in_default : goal.returns-in_default
returns-in_default c = c.resume_wrote.ensures _
