use Rattle.isochronous.specs.Frames.{framed_on}
use Rattle.isochronous.proofs.iso_in.record_frame.Goals as goal

pub returns : goal.returns
unfolding framed_on
returns c =
    record {
      s_after = simp (c.store_ep.ensures.s_after, c.load_ep-r.ensures);
      s_unchanged = c.store_ep.ensures.s_unchanged;
    }
