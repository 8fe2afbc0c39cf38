use Rattle.interrupt.specs.StopsLaws.{goes_on_lem}
use Rattle.interrupt.specs.Laws.{frame-read}
use Rattle.interrupt.proofs.framing.after_frame_no.Goals as goal

pub short-frame-requires : goal.short-frame-requires
short-frame-requires c = c.requires

pub returns : goal.returns
returns c =
    goes_on_lem c.serve.ensures
    (frame-read c.args.e.setup c.args.e.x _ c.args.e.iso _ _ _ _ _ c.framed-f.ensures c.load_globals-g.ensures
    c.short-frame.ensures)
