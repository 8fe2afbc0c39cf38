use Rattle.std.proofs.Common.{arith}
use Rattle.interrupt.specs.declared.Point.TheVariants as point
use Rattle.interrupt.specs.Sites.{at-site}
use Rattle.answer.specs.Answering.{parts2}
use Rattle.readings.specs.FramesLaws.{frame-brought}
use Rattle.readings.proofs.frames.released.Goals as goal

pub after_frame_no-requires : goal.after_frame_no-requires
after_frame_no-requires c = (c.may_frame.ensures c.if-may_frame.true).2

pub returns-in-Ends : goal.returns-in-Ends
returns-in-Ends c i time =
    let may = c.may_frame.ensures c.if-may_frame.true in
    frame-brought i c.args.frame c.setup_at-setup.result c.transfer_at-x.result _ c.iso_of.result c.args.s.now _
    c.args.slots.now _ time
    may.0.tagged (at-site 10 may.0 (parts2 point.Released c.setup_at-setup.ensures
    c.transfer_at-x.ensures))
    (omega arith) may.1 may.2 c.begin-n.result
    (c.begin-n.ensures.0 c.args.slots.now)
    c.in-Ends.is (c.iso_of.ensures c.setup_at-setup.result c.args.slots.now) c.after_frame_no.ensures
