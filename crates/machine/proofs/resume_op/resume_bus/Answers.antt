use Rattle.machine.proofs.PointsStandsLaws.{at_last}
use Rattle.machine.specs.BusLaws.{bus, first}
use Rattle.state.specs.State.{saved}
use Rattle.machine.proofs.resume_op.resume_bus.Goals as goal

pub resume_enable-requires : goal.resume_enable-requires
resume_enable-requires c =
    at_last bus c.args.s.now c.requires c.sub_byte-k.ensures (first (saved c.args.s.now) _ c.in_default.in_default-own.rest)

pub returns-in-1 : goal.returns-in-1
returns-in-1 c = c.resume_event.ensures _ _

pub returns-in-2 : goal.returns-in-2
returns-in-2 c = c.resume_stalled.ensures _

pub returns-in-3 : goal.returns-in-3
returns-in-3 c = c.resume_stall_len.ensures _ _

pub returns-in-4 : goal.returns-in-4
returns-in-4 c = c.resume_stall_word.ensures _

pub returns-in-5 : goal.returns-in-5
returns-in-5 c = c.resume_restarted.ensures _ _

pub returns-in-6 : goal.returns-in-6
returns-in-6 c = c.resume_woken.ensures _ _

pub returns-in-7 : goal.returns-in-7
returns-in-7 c = c.resume_flags.ensures _

pub returns-in-8 : goal.returns-in-8
returns-in-8 c = c.resume_status.ensures _

pub returns-in-9 : goal.returns-in-9
returns-in-9 c = c.resume_released.ensures _ _

pub returns-in-10 : goal.returns-in-10
returns-in-10 c = c.resume_address.ensures _ _

pub returns-in-11 : goal.returns-in-11
returns-in-11 c = c.resume_ep0_out.ensures _ _

pub returns-in-12 : goal.returns-in-12
returns-in-12 c = c.resume_nak_in.ensures _ _

pub returns-in-13 : goal.returns-in-13
returns-in-13 c = c.resume_naked.ensures _ _

pub returns-in-14 : goal.returns-in-14
returns-in-14 c = c.resume_disabled.ensures _ _

pub returns-in-15 : goal.returns-in-15
returns-in-15 c = c.resume_untyped.ensures _ _

pub returns-in-16 : goal.returns-in-16
returns-in-16 c = c.resume_single.ensures _ _

pub returns-in-17 : goal.returns-in-17
returns-in-17 c = c.resume_reset.ensures _ _

pub returns-in-18 : goal.returns-in-18
returns-in-18 c = c.resume_placed_out.ensures _ _

pub returns-in-19 : goal.returns-in-19
returns-in-19 c = c.resume_placed_in.ensures _ _

pub returns-in-20 : goal.returns-in-20
returns-in-20 c = c.resume_no_length.ensures _ _

pub returns-in-21 : goal.returns-in-21
returns-in-21 c = c.resume_words.ensures _ _

pub returns-in-22 : goal.returns-in-22
returns-in-22 c = c.resume_typed.ensures _ _

pub returns-in-23 : goal.returns-in-23
returns-in-23 c = c.resume_switch.ensures _

pub returns-in_default : goal.returns-in_default
returns-in_default c = c.resume_enable.ensures _
