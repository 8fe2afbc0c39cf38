-- What a run of the driver's calls is computed with: `unfolding computing` opens it all, so that the check works it out
use Rattle.alloc.specs.Alloc as alloc-alloc
use Rattle.alloc.specs.Buffer as alloc-buffer
use Rattle.bits.specs.Bit as bits-bit
use Rattle.bits.specs.Walk as bits-walk
use Rattle.frame.specs.Advance as frame-advance
use Rattle.frame.specs.Usb20 as frame-usb20
use Rattle.ring.specs.Copies as marks-copies
use Rattle.ring.specs.Marks as marks-marks
use Rattle.script_ops.specs.Records as ops-records
use Rattle.script_ops.specs.Rings as ops-rings
use Rattle.regs.specs.ControlWord as regs-controlword
use Rattle.regs.specs.Enables as regs-enables
use Rattle.regs.specs.Registers as regs-registers
use Rattle.regs.specs.Status as regs-status
use Rattle.ring.specs.In as ring_in_lem
use Rattle.ring.specs.Out as ring_out
use Rattle.ring.specs.Slot as ring-slot
use Rattle.ring.specs.Waiting as ring-waiting
use Rattle.script.specs.Answers as script-answers
use Rattle.script.specs.Bus as script-bus
use Rattle.script.specs.Calls as script-calls
use Rattle.script.specs.Control as script-control
use Rattle.script.specs.Endpoint as script-endpoint
use Rattle.script.specs.Handler as script-handler
use Rattle.script.specs.IsoIn as script-isoin
use Rattle.script.specs.IsoOut as script-isoout
use Rattle.script.specs.Statics as script-statics
use Rattle.state.specs.Driver as state-driver
use Rattle.state.specs.Fresh as state-fresh
use Rattle.state.specs.Wakes as state-wakes
use Rattle.answer.specs.Questions as way-questions

-- bits, frame numbers, marks in a slot, what a register's value says
unfoldable numbers : Unit {0}
unfolding bits-bit.bit_is_set bits-bit.with_bit bits-walk.bits_from frame-advance.completions frame-advance.distance
    frame-advance.is_none frame-advance.previous frame-advance.in_previous frame-usb20.index_of frame-usb20.microframe
    frame-usb20.frame_number frame-usb20.frame_of marks-copies.copied marks-marks.marked_len marks-marks.found
    marks-marks.is_marked marks-marks.is_mark marks-marks.armed marks-marks.arm marks-marks.marked_run
    marks-marks.marked regs-controlword.status regs-controlword.with_toggle regs-controlword.toggle
    regs-controlword.ack regs-controlword.with_response regs-controlword.response regs-controlword.word_of
    regs-controlword.stall regs-controlword.is_stalled regs-controlword.nakflip regs-controlword.nak
    regs-controlword.flip regs-controlword.is_data1 regs-enables.is_on regs-enables.with_on regs-enables.out_enabled
    regs-enables.in_enabled regs-registers.fits_in regs-status.is_in regs-status.token regs-status.token_numbered
    regs-status.endpoint regs-status.is_out regs-status.is_sof
numbers = tt

-- endpoint numbers and buffers
unfoldable allocation : Unit {0}
unfolding alloc-alloc.allocate_ep0_of alloc-alloc.with_next alloc-alloc.is_iso alloc-alloc.allocate_of
    alloc-alloc.number_of alloc-alloc.lowest_of alloc-alloc.is_free alloc-alloc.nums_of alloc-alloc.taken_ins
    alloc-alloc.asked_of alloc-alloc.numbered_of alloc-alloc.buffered_of alloc-alloc.slots_of alloc-alloc.taken
    alloc-alloc.add_to alloc-alloc.is_out alloc-alloc.with_allocated alloc-alloc.allocated_ins alloc-alloc.allocated
    alloc-buffer.good_buffer alloc-buffer.good_size alloc-buffer.fits
allocation = tt

-- the state, and what is asked of it
unfoldable state : Unit {0}
unfolding state-driver.stamp_on state-driver.stamp_key state-driver.ep_on state-driver.key state-driver.len_on
    state-driver.len_key state-driver.request_on state-driver.paced_on state-driver.with_on state-driver.with_len_on
    state-driver.with_stamp_on state-driver.with_paced_on state-driver.with_request_on state-fresh.fresh_driver
    state-fresh.no_stamps state-fresh.clear_stamps state-fresh.filled state-wakes.woken state-wakes.listed
    state-wakes.wake_code state-wakes.every_endpoint way-questions.enabled_asked way-questions.overruns_on
    way-questions.overruns_of way-questions.pending_on
state = tt

-- rings of packets
unfoldable rings : Unit {0}
unfolding ring_in_lem.loaded_of ring_in_lem.has_room_in ring_in_lem.completed_of ring_in_lem.unloaded_of ring_out.armed_at
    ring_out.capped_at ring_out.arrived_of ring_out.overrun_of ring_out.has_room_out ring_out.closed_of ring_out.opened_of
    ring-slot.slot_addr ring-slot.slot_of ring-slot.count_of ring-slot.has_waiting ring-slot.joined_of ring-slot.passed_of
    ring-waiting.window ring-waiting.packet ring-waiting.packets ring-waiting.waiting
rings = tt

-- what operations do to the state and the lent buffer
unfoldable operations : Unit {0}
unfolding ops-records.with_sets ops-records.allocated_ep0 ops-records.started_with ops-records.allocated_on
    ops-records.given_to ops-records.record_given ops-records.sets_given ops-records.enabled_on ops-records.configured
    ops-records.iso_out ops-rings.word_at ops-rings.reset_all ops-rings.reset_below ops-rings.slot_step
    ops-rings.renewed_on ops-rings.type_step ops-rings.config_step ops-rings.place_on ops-rings.send_on ops-rings.send_addr
    ops-rings.arrive_on ops-rings.admitted_on ops-rings.recorded_on ops-rings.enqueue_on ops-rings.queued_on
    ops-rings.room_on ops-rings.room_in ops-rings.take_on ops-rings.close_on ops-rings.open_on ops-rings.filled_ep0
    ops-rings.filled_on ops-rings.emptied_on ops-rings.emptied ops-rings.complete_on ops-rings.oldest_on
    ops-rings.next_len ops-rings.oldest_at ops-rings.next_stamp ops-rings.marked_on ops-rings.opened_on
    ops-rings.waiting_on ops-rings.changed_on
operations = tt

-- scripts
unfoldable scripts : Unit {0}
unfolding script-answers.is_number script-answers.is_allocated script-bus.restarted_in script-bus.restarted
    script-bus.restarted_out script-bus.nak_all script-calls.start_row script-control.setup_bytes script-endpoint.too_long
    script-handler.own_in script-handler.repeated script-handler.looks script-handler.iso_for script-handler.in_naks
    script-handler.out_naks script-handler.waits_for_bulk script-handler.same_out script-handler.waits_for_iso
    script-isoin.iso_in_completions script-isoin.sof_walk script-isoin.leaving script-isoin.late_walk
    script-isoout.check_walk script-isoout.arriving script-isoout.entry script-statics.is_on script-statics.iso_outs
    script-statics.every_iso_in
scripts = tt

unfoldable pub computing : Unit {0}
unfolding numbers allocation state rings operations scripts
computing = tt
