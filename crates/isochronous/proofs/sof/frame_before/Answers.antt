use Rattle.isochronous.proofs.sof.frame_before.Goals as goal

pub returns : goal.returns
returns c = simp (c.frame_of_index.ensures, c.previous-i.ensures, c.microframe_index.ensures)
