use Rattle.isochronous.specs.Frames.{is_first}
use Rattle.isochronous.proofs.iso_in.first_in_frame.Goals as goal

pub returns : goal.returns
unfolding is_first
returns c =
    record {
      value = simp c.load_ep-r.ensures;
      s_after = c.record_frame.ensures.s_after;
      s_unchanged = c.record_frame.ensures.s_unchanged;
    }
