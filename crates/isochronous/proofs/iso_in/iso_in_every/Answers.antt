use Rattle.bits.specs.Mask.{except}
use Rattle.script.specs.Statics.{every_iso_in}
use Rattle.isochronous.proofs.iso_in.iso_in_every.Goals as goal

pub returns : goal.returns
unfolding every_iso_in except
returns c = simp (c.in_enabled.ensures, c.mask_except.ensures)
