use Rattle.isochronous.proofs.complete.iso_in_complete.Goals as goal

pub returns : goal.returns
returns c = (c.start-x.ensures.0, (c.start-x.ensures.1.0, c.start-x.ensures.1.1))
