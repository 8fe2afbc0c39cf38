use Rattle.interrupt.specs.Sites.{at_first}
use Rattle.state.specs.State.{saved}
use mathlib.Core.Path.{sym}
use Rattle.calls.proofs.resume.resume_interrupt.Goals as goal

pub resume_frame-requires : goal.resume_frame-requires
resume_frame-requires c =
    at_first (saved c.args.s.now) _ c.requires (sym c.site_byte-site.ensures) c.in_default.in_default-own.rest

pub returns-in-1 : goal.returns-in-1
returns-in-1 c = c.resume_flags.ensures _

pub returns-in-2 : goal.returns-in-2
returns-in-2 c = c.resume_bus_rst.ensures _ _

pub returns-in-3 : goal.returns-in-3
returns-in-3 c = c.resume_suspend.ensures _ _

pub returns-in-4 : goal.returns-in-4
returns-in-4 c = c.resume_fifo.ensures _ _

pub returns-in-5 : goal.returns-in-5
returns-in-5 c = c.resume_host.ensures _ _

pub returns-in-6 : goal.returns-in-6
returns-in-6 c = c.resume_mis.ensures _

pub returns-in-7 : goal.returns-in-7
returns-in-7 c = c.resume_st.ensures _

pub returns-in-8 : goal.returns-in-8
returns-in-8 c = c.resume_len.ensures _

pub returns-in-9 : goal.returns-in-9
returns-in-9 c = c.resume_nak.ensures _

pub returns-in-10 : goal.returns-in-10
returns-in-10 c = c.resume_released.ensures _ _

pub returns-in-11 : goal.returns-in-11
returns-in-11 c = c.resume_settle.ensures _

pub returns-in-12 : goal.returns-in-12
returns-in-12 c = c.resume_frame_no.ensures

pub returns-in-13 : goal.returns-in-13
returns-in-13 c = c.resume_sof.ensures

pub returns-in-14 : goal.returns-in-14
returns-in-14 c = c.resume_late.ensures _

pub returns-in-15 : goal.returns-in-15
returns-in-15 c = c.resume_sof_arm.ensures

pub returns-in-16 : goal.returns-in-16
returns-in-16 c = c.resume_flip.ensures _

pub returns-in-17 : goal.returns-in-17
returns-in-17 c = c.resume_flipped.ensures _

pub returns-in-18 : goal.returns-in-18
returns-in-18 c = c.resume_toggled.ensures

pub returns-in-19 : goal.returns-in-19
returns-in-19 c = c.resume_completing.ensures _

pub returns-in-20 : goal.returns-in-20
returns-in-20 c = c.resume_check.ensures

pub returns-in-21 : goal.returns-in-21
returns-in-21 c = c.resume_moved_read.ensures _

pub returns-in-22 : goal.returns-in-22
returns-in-22 c = c.resume_moved_wrote.ensures _ _

pub returns-in-23 : goal.returns-in-23
returns-in-23 c = c.resume_setup_rx.ensures _ _

pub returns-in-24 : goal.returns-in-24
returns-in-24 c = c.resume_setup_tx.ensures _

pub returns-in-25 : goal.returns-in-25
returns-in-25 c = c.resume_setup_released.ensures _ _

pub returns-in_default : goal.returns-in_default
returns-in_default c = c.resume_frame.ensures _
