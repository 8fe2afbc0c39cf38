use Rattle.machine.proofs.PointsStandsLaws.{at_last}
use Rattle.machine.specs.DriverLaws.{driver, first}
use Rattle.state.specs.State.{saved}
use Rattle.machine.proofs.resume_op.resume_driver.Goals as goal

pub resume_clear-requires : goal.resume_clear-requires
resume_clear-requires c =
    at_last driver c.args.s.now c.requires c.sub_byte-k.ensures (first (saved c.args.s.now) _ c.in_default.in_default-own.rest)

pub returns-in-1 : goal.returns-in-1
returns-in-1 c = c.resume_wait.ensures _

pub returns-in-2 : goal.returns-in-2
returns-in-2 c = c.resume_reset.ensures

pub returns-in-3 : goal.returns-in-3
returns-in-3 c = c.resume_reset_end.ensures _

pub returns-in-4 : goal.returns-in-4
returns-in-4 c = c.resume_host.ensures _

pub returns-in-5 : goal.returns-in-5
returns-in-5 c = c.resume_run.ensures _

pub returns-in-6 : goal.returns-in-6
returns-in-6 c = c.resume_int_en.ensures _

pub returns-in-7 : goal.returns-in-7
returns-in-7 c = c.resume_max_len.ensures _

pub returns-in-8 : goal.returns-in-8
returns-in-8 c = c.resume_place.ensures _

pub returns-in-9 : goal.returns-in-9
returns-in-9 c = c.resume_ep0_place.ensures _

pub returns-in-10 : goal.returns-in-10
returns-in-10 c = c.resume_ep0_max_len.ensures _

pub returns-in-11 : goal.returns-in-11
returns-in-11 c = c.resume_ep0_rx.ensures _

pub returns-in-12 : goal.returns-in-12
returns-in-12 c = c.resume_ep0_tx.ensures _

pub returns-in-13 : goal.returns-in-13
returns-in-13 c = c.resume_ep0_packet.ensures _

pub returns-in-14 : goal.returns-in-14
returns-in-14 c = c.resume_frame_no.ensures

pub returns-in-15 : goal.returns-in-15
returns-in-15 c = c.resume_list_max_len.ensures _

pub returns-in-16 : goal.returns-in-16
returns-in-16 c = c.resume_list_place.ensures _

pub returns-in_default : goal.returns-in_default
returns-in_default c = c.resume_clear.ensures _
