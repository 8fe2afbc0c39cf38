use Rattle.machine.proofs.PointsStandsLaws.{at_last}
use Rattle.machine.specs.AdvanceLaws.{advance, first}
use Rattle.state.specs.State.{saved}
use Rattle.machine.proofs.resume_op.resume_advance.Goals as goal

pub resume_frame_no-requires : goal.resume_frame_no-requires
resume_frame_no-requires c =
    at_last advance c.args.s.now c.requires c.sub_byte-k.ensures (first (saved c.args.s.now) _ c.in_default.in_default-own.rest)

pub returns-in-1 : goal.returns-in-1
returns-in-1 c = c.resume_sent.ensures _

pub returns-in-2 : goal.returns-in-2
returns-in-2 c = c.resume_loaded.ensures _

pub returns-in_default : goal.returns-in_default
returns-in_default c = c.resume_frame_no.ensures
